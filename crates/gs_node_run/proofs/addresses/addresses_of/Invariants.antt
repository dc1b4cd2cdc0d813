use Rattle.std.proofs.Common.{◌≡◌, map, take}
use Rattle.gs_topo.specs.Graph.{neighbours_of}
use Rattle.gs_plan.specs.Plans.{graph_of, text_of}
use Rattle.gs_node_run.specs.Addresses.{receives_at}
use Rattle.gs_node_run.proofs.addresses.addresses_of.Given as goal

abbrev pub invariant-loop-x : goal.invariant-loop-x
invariant-loop-x l = record {
  inlets : l.inlets.items ≡ map (receives_at (text_of l.plan) (graph_of l.plan) l.v) (take l.x-index (neighbours_of (graph_of l.plan) l.v));
  routes : l.routes.items ≡ map (λ x. (x, receives_at (text_of l.plan) (graph_of l.plan) x l.v)) (take l.x-index (neighbours_of (graph_of l.plan) l.v));
}
