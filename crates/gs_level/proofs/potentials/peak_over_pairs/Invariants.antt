use Rattle.std.proofs.Common.{◌≡◌, fold, length}
use Rattle.gs_plan.specs.Plans.{text_of, graph_of}
use Rattle.gs_level.specs.inside.Running.{raised}
use Rattle.gs_plan.specs.Weights.{weight_in}
use Rattle.gs_level.proofs.Pairs.{pairs_below}
use Rattle.gs_level.proofs.potentials.peak_over_pairs.Given as goal

abbrev pub invariant-loop-v : goal.invariant-loop-v
invariant-loop-v l = l.best ≡ fold (raised (weight_in (text_of l.plan) (graph_of l.plan)) l.clocks l.s) (record { value = 0; v = 0; w = 0 }) (pairs_below (length l.clocks) l.v)
