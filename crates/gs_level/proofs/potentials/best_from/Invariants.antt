use Rattle.std.proofs.Common.{◌≡◌, fold}
use Rattle.gs_plan.specs.Plans.{text_of, graph_of}
use Rattle.gs_level.specs.inside.Running.{pairs_from, raised}
use Rattle.gs_plan.specs.Weights.{weight_in}
use Rattle.gs_level.proofs.potentials.best_from.Given as goal

abbrev pub invariant-loop-w : goal.invariant-loop-w
invariant-loop-w l = l.best ≡ fold (raised (weight_in (text_of l.plan) (graph_of l.plan)) l.clocks l.s) l.fn.before (pairs_from l.w l.v)
