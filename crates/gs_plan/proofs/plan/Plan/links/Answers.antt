use Rattle.std.proofs.Common.{◌<◌, length}
use Rattle.gs_topo.specs.Graph.{neighbours_of}
use Rattle.gs_topo.proofs.Nearer.{neighbour_inside}
use Rattle.gs_plan.proofs.plan.Plan.links.Goals as goal

pub link-requires : goal.link-requires
link-requires c =
    let g = c.args.self.now.topo in
    let is = c.neighbours-x-items.ensures in
    let inside : c.loop-x.x-index < length (neighbours_of g c.args.v) = rw (← is) c.loop-x-test.true in
    rw is (neighbour_inside g c.args.v c.loop-x.x-index 0 inside).1
