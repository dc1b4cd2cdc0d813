-- What is known of a replay that runs: for private functions and proofs.
use Rattle.std.specs.Prelude.{◌≡◌, ◌+◌, ◌^◌, ◌<◌, List, length}
use Rattle.gs_units.specs.declared.params.NodeParams.{NodeParams}
use Rattle.gs_core.specs.Steps.{replay}
use Rattle.gs_core.specs.declared.event.NodeEvent.{NodeEvent}
use Rattle.gs_trace.specs.declared.start.NodeStart.{NodeStart}
use Rattle.gs_audit.specs.NodeVerdicts.{node_verdict_of, verdict_on}
use Rattle.gs_audit.specs.declared.replaying.Replaying.{Replaying}

-- Of all events of a replay from this start these are left, and the verdict on them is the one on all.
pub record IsReplaying (p : NodeParams) (s : NodeStart) (all left : List NodeEvent) (r : Replaying) : Type 0 where
  pub params : r.core.params ≡ p
  pub verdict : node_verdict_of p s all ≡ verdict_on p (replay p r.index r.core.node left)
  pub short : r.index + length left < 2 ^ 64
