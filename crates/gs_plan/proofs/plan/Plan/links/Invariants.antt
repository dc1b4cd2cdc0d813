use Rattle.std.proofs.Common.{◌≡◌, map, take}
use Rattle.gs_plan.specs.Nodes.{link_in}
use Rattle.gs_topo.specs.Graph.{neighbours_of}
use Rattle.gs_plan.proofs.plan.Plan.links.Given as goal

abbrev pub invariant-loop-x : goal.invariant-loop-x
invariant-loop-x l = l.links.items ≡ map (link_in l.self.text l.v) (take l.x-index (neighbours_of l.self.topo l.v))
