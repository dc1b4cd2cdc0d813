use Rattle.std.proofs.Common.{◌≡◌, ◌∙◌, map, rules}
use Rattle.gs_topo.specs.Graph.{neighbours_of}
use Rattle.gs_plan.specs.Nodes.{link_in}
use Rattle.gs_plan.proofs.Telling.{params_are_valid, plan_accepted, plan_is_graph}
use Rattle.gs_plan.proofs.plan.Plan.node.Goals as goal

pub returns-clause-valid : goal.returns-clause-valid
returns-clause-valid c =
    let p = c.args.self.now in
    let links : c.from_vec.result ≡ map (link_in p.text c.args.v) (neighbours_of p.topo c.args.v) = c.from_vec.ensures ∙ c.in_ok-links.ensures in
    params_are_valid p.text p.topo p.rate c.args.v c.from_vec.result p.iota (plan_accepted p.text p.topo p.accepted p.graph) p.rates p.graph links p.greatest.iota
    (plan_is_graph p.text p.topo p.accepted p.graph) c.requires (search rules) (search rules)
