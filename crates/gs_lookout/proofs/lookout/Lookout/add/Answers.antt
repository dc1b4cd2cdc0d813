use Rattle.std.proofs.Common.{◌+◌, ◌≤◌, ℕ, List, arith, subst, sym}
use Rattle.gs_topo.specs.Graph.{Graph}
use Rattle.gs_plan.specs.Plans.{graph_of}
use Rattle.gs_plan.proofs.Weights.{graph_is}
use Rattle.gs_skew.specs.Skews.{neighbour_skew}
use Rattle.gs_lookout.proofs.Growing.{global_grows, near_grows, near_below}
use Rattle.gs_lookout.proofs.lookout.Lookout.add.Goals as goal

pub seen-global-requires : goal.seen-global-requires
seen-global-requires c =
    let grown = c.requires.grown in
    let here = global_grows c.args.by grown.1 c.args.clocks.now grown.3 in
    let bound = grown.2.global in
    omega (arith, here, bound)

pub seen-near-requires-clause-grown : goal.seen-near-requires-clause-grown
seen-near-requires-clause-grown c =
    let grown = c.requires.grown in
    let here = near_grows (graph_of c.args.plan.now) c.args.by grown.1 c.args.clocks.now (graph_is c.args.plan.now) c.requires.count grown.3 in
    let bound = grown.2.near in
    subst (λ (g : Graph). neighbour_skew g.edges c.args.clocks.now ≤ c.args.self.now.link.most + c.args.by) (sym c.topo.ensures) (omega (arith, here, bound))

pub seen-near-requires-clause-global : goal.seen-near-requires-clause-global
seen-near-requires-clause-global c =
    let here = near_below (graph_of c.args.plan.now) c.args.clocks.now (graph_is c.args.plan.now) c.requires.count in
    let bound = c.seen-global.ensures.seen.bound in
    subst (λ (g : Graph). neighbour_skew g.edges c.args.clocks.now ≤ c.seen-global.result) (sym c.topo.ensures) (omega (arith, here, bound))
