use Rattle.std.proofs.Common.{subst}
use Rattle.gs_topo.specs.Graph.{Adjacent}
use Rattle.gs_topo.specs.Walks.{IsLeast}
use Rattle.gs_topo.specs.Weights.{Lengths, length_between}
use Rattle.gs_plan.proofs.Linking.{weight_is}
use Rattle.gs_plan.proofs.Weights.{given_weight, weight_fits}
use Rattle.gs_plan.proofs.plan.Plan.weight.Goals as goal

pub returns-clause-least : goal.returns-clause-least
returns-clause-least c =
    let p = c.args.self.now in
    let least = subst (λ (l : Lengths). IsLeast (Adjacent l.graph) l.graph.nodes (length_between l) c.args.v c.args.w c.weight.result) p.lengths c.weight.ensures in
    weight_is p.text p.topo c.args.v c.args.w c.weight.result least

pub returns-clause-value : goal.returns-clause-value
returns-clause-value c = given_weight c.args.self.now c.args.v c.args.w c.weight.result c.requires.0 c.requires.1 (returns-clause-least c)

pub returns-clause-small : goal.returns-clause-small
returns-clause-small c = rw (returns-clause-value c) (weight_fits c.args.self.now c.args.v c.args.w c.requires.0 c.requires.1)
