-- The trace of what a board took.
use Rattle.std.specs.Prelude.{ℕ, List, ◌++◌}
use Rattle.std.specs.List.{flat_map}
use Rattle.gs_board.specs.Ledger.{Ledger}
use Rattle.gs_trace.specs.Nodes.{event_bytes, head_bytes}

-- the spelling of its start and its journal
abbrev pub trace_of : Ledger → List ℕ
trace_of t = head_bytes t.core.params.cluster t.core.params.node t.begun ++ flat_map event_bytes t.journal
