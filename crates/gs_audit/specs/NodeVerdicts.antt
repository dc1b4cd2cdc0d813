-- What a replay of a node's events comes to.
use Rattle.std.specs.Prelude.{List, ⊤}
use Rattle.gs_units.specs.declared.params.NodeParams.{NodeParams}
use Rattle.gs_core.specs.Node.{Node, clock_of, maximum_of, started}
use Rattle.gs_core.specs.Steps.{Replayed, Whole, Stopped, replay}
use Rattle.gs_core.specs.declared.event.NodeEvent.{NodeEvent}
use Rattle.gs_trace.specs.declared.start.NodeStart.{NodeStart}
use Rattle.gs_audit.specs.declared.verdict.NodeVerdict.{NodeVerdict}
use Rattle.gs_audit.specs.declared.verdict.NodeVerdict.TheVariants as verdict

-- the verdict on a node that took all events: its clock and its maximum at its last reading, and its mode
abbrev pub verdict_on_node : NodeParams → Node → NodeVerdict
verdict_on_node p n = verdict.Within (clock_of p.rate n n.last) (maximum_of p.rate n n.last) n.mode

-- the verdict on a replay
abbrev pub verdict_on : NodeParams → Replayed → NodeVerdict
verdict_on p (Whole n replies) = verdict_on_node p n
verdict_on p (Stopped index fault) = verdict.Refused index fault

-- The verdict on these events of the node of these parameters, from this start.
abbrev pub node_verdict_of : NodeParams → NodeStart → List NodeEvent → NodeVerdict
node_verdict_of p s es = verdict_on p (replay p 0 (started p s.hw s.l0) es)

-- no event is refused
abbrev pub TakesAll : NodeVerdict → Type 0
TakesAll (verdict.Within l m mode) = ⊤
TakesAll (verdict.Refused index why) = ⊥
