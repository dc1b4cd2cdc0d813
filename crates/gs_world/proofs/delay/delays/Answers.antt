use Rattle.std.proofs.Common.{◌<◌, ◌∙◌, ap, length}
use Rattle.gs_plan.specs.Plans.{graph_of}
use Rattle.gs_topo.specs.Graph.{Graph, neighbours_of}
use Rattle.gs_topo.proofs.Nearer.{neighbour_inside}
use Rattle.gs_world.proofs.delay.delays.Goals as goal

pub between-requires : goal.between-requires
between-requires c =
    let g = graph_of c.args.plan.now in
    let is = c.neighbours-x-items.ensures ∙ ap (λ (x : Graph). neighbours_of x c.args.v) c.topo.ensures in
    let inside : c.loop-x.x-index < length (neighbours_of g c.args.v) = rw (← is) c.loop-x-test.true in
    rw is (neighbour_inside g c.args.v c.loop-x.x-index 0 inside).1
