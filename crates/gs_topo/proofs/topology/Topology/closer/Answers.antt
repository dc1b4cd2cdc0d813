use Rattle.std.proofs.Common.{arith, ◌≡◌, ◌+◌, ◌<◌, length, slice_index}
use Rattle.gs_topo.specs.Graph.{neighbours_of}
use Rattle.gs_topo.specs.Walks.{distance_of}
use Rattle.gs_topo.proofs.Nearer.{found_closer, must_find, neighbour_inside}
use Rattle.gs_topo.proofs.topology.Topology.closer.Goals as goal

pub distance-requires : goal.distance-requires
distance-requires c =
    let list = c.neighbours-x-items.ensures in
    let here : c.loop-x.x-index < length (neighbours_of c.args.self.now c.args.v) = rw list at c.loop-x-test.true in
    rw list ((neighbour_inside c.args.self.now c.args.v c.loop-x.x-index 0 here).0, c.requires.nodes.1)

pub returns-then-distance-far : goal.returns-then-distance-far
returns-then-distance-far c =
    let list = c.neighbours-x-items.ensures in
    let here : c.loop-x.x-index < length (neighbours_of c.args.self.now c.args.v) = rw list at c.loop-x-test.true in
    let value = c.distance.ensures.value in
    let nearer : distance_of c.args.self.now (slice_index c.neighbours-x-items.result.now c.loop-x.x-index) c.args.w + 1 ≡ distance_of c.args.self.now c.args.v c.args.w =
    omega (arith, value, c.distance-far.ensures.value, c.if-distance-far.true) in
    rw list (found_closer c.args.self.now c.args.v c.args.w c.loop-x.x-index here c.loop-x.invariant (rw list at nearer))

pub unreachable-requires : goal.unreachable-requires
unreachable-requires c =
    let list = c.neighbours-x-items.ensures in
    let past = rw list at c.loop-x-test.false in
    must_find c.args.self.now c.distance-far.ensures.graph c.args.v c.args.w c.requires.nodes.0 c.requires.nodes.1 c.requires.other
    (λ j hj. c.loop-x.invariant j (omega (arith, hj, past)))
