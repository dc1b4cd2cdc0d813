use Rattle.gs_run.specs.Nets.{net_of}
use Rattle.gs_calendar.specs.Course.{course_of}
use Rattle.gs_piece.specs.Nodes.{AreNodes, none_handed}
use Rattle.gs_piece.proofs.nodes.Nodes.start.Given as goal

abbrev pub invariant-loop-v : goal.invariant-loop-v
invariant-loop-v l = AreNodes (net_of l.plan) (course_of l.script) (none_handed 0) l.first l.v 0 (λ i. 0) l.nodes
