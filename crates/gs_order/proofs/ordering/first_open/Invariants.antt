use Rattle.gs_order.specs.inside.UnderWay.{AreDone}
use Rattle.gs_order.proofs.ordering.first_open.Given as goal

abbrev pub invariant-loop-i : goal.invariant-loop-i
invariant-loop-i l = AreDone l.events l.i
