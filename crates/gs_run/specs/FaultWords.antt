-- The words for why an event is not allowed.
use Rattle.std.specs.Prelude.{ℕ, List, ◌++◌, codes, decimal}
use Rattle.gs_run.specs.declared.refused.Refused.{Refused}
use Rattle.gs_run.specs.declared.refused.Refused.TheVariants as refused

-- why, with the node; of an edge the sender comes first
abbrev pub why_of : Refused → List ℕ
why_of refused.Shape = codes "shape"
why_of refused.End = codes "end"
why_of (refused.Drift v) = codes "drift " ++ decimal v
why_of (refused.TickDue v) = codes "due " ++ decimal v
why_of (refused.Stale from to) = codes "stale " ++ decimal from ++ codes " " ++ decimal to
why_of refused.Unknown = codes "unknown"
why_of refused.Early = codes "early"
why_of refused.Late = codes "late"
why_of refused.OutOfMemory = codes "out of memory"
