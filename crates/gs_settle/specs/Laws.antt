-- The law of settling, over runs.
use Rattle.std.specs.Prelude.{ℕ, ◌+◌, ◌<◌, ◌≤◌, List, slice_index}
use Rattle.gs_core.specs.declared.event.Event.{Event}
use Rattle.gs_plan.specs.declared.plan.Plan.{Plan}
use Rattle.gs_run.specs.Nets.{net_of}
use Rattle.gs_run.specs.Run.{Allowed, run}
use Rattle.gs_run.specs.World.{clocks_in, world_at_start_each}
use Rattle.gs_settle.specs.Times.{AreSettled, level_time}

-- no two of the clocks of the first n nodes are further apart
abbrev pub AreWithin : ℕ → List ℕ → ℕ → Type 0
AreWithin n clocks gamma = (v w : ℕ) → v < n → w < n → slice_index clocks w ≤ slice_index clocks v + gamma

-- After every allowed list of events, from clocks that differ by at most gamma, each level holds from its time on.
abbrev pub RunsSettle : Type 0
RunsSettle = (p : Plan) (hw l0s : List ℕ) (gamma : ℕ) (es : List Event) → AreWithin (net_of p).nodes l0s gamma
    → Allowed (net_of p) (world_at_start_each (net_of p) hw l0s) es
    → (s : ℕ) → level_time (net_of p) gamma s ≤ (run (net_of p) (world_at_start_each (net_of p) hw l0s) es).quanta
    → AreSettled (net_of p) (clocks_in (net_of p) (run (net_of p) (world_at_start_each (net_of p) hw l0s) es)) s
