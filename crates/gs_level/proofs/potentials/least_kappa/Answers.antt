use Rattle.std.proofs.Common.{◌≡◌, ap, arith, length, ◌∙◌}
use Rattle.gs_topo.specs.Graph.{Graph}
use Rattle.gs_plan.specs.Plans.{graph_of}
use Rattle.gs_level.proofs.Weights.{low_for_all}
use Rattle.gs_level.proofs.potentials.least_kappa.Goals as goal

pub returns : goal.returns
returns c =
    let count = ap length c.edges.ensures.value ∙ ap (λ (g : Graph). length g.edges) c.topo.ensures in
    let end : c.loop-e.e ≡ length (graph_of c.args.plan.now).edges = omega (arith, count) in
    low_for_all c.args.plan.now c.loop-e.least (rw end at c.loop-e.invariant)
