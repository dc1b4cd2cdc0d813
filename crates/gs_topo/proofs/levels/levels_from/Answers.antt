use Rattle.std.proofs.Common.{rules, arith, ◌≡◌, ◌<◌, [], ◌∷◌, length, replicate, slice_index_or}
use Rattle.std.specs.Vec.{vec_len}
use Rattle.gs_topo.specs.Graph.{adjacent}
use Rattle.gs_topo.specs.inside.Search.{Trial, far_level}
use Rattle.gs_topo.specs.Walks.{one_each}
use Rattle.gs_topo.proofs.Levelling.{here_small, levels_are, node_inside, nodes_below, turn_goes_on, turn_of, turn_within}
use Rattle.gs_topo.proofs.Searching.{begins, begins_within}
use Rattle.gs_topo.proofs.levels.levels_from.Goals as goal

pub loop-next-init : goal.loop-next-init
loop-next-init c =
    let filled : c.in_ok-levels.levels.items ≡ replicate (length c.args.lists.now) far_level = search rules in
    let queue : c.push.new.self.items ≡ c.args.source ∷ [] = search rules in
    rw (filled, queue) (record {
      within = begins_within (length c.args.lists.now) far_level c.args.source c.requires.source;
      under_way = λ g are. begins (length c.args.lists.now) (adjacent g) one_each far_level c.args.source c.requires.source;
    })

pub index-here-requires : goal.index-here-requires
index-here-requires c =
    let inside : c.loop-next.next < length c.loop-next.queue.items = search rules in
    let len : vec_len c.loop-next.levels ≡ length c.loop-next.levels.items = search rules in
    rw len ((node_inside (length c.args.lists.now) c.loop-next.levels.items c.loop-next.queue.items c.loop-next.next c.index.result.now c.loop-next.invariant.within inside c.index.ensures).1)

pub bounds-lists-node : goal.bounds-lists-node
bounds-lists-node c =
    let inside : c.loop-next.next < length c.loop-next.queue.items = search rules in
    (node_inside (length c.args.lists.now) c.loop-next.levels.items c.loop-next.queue.items c.loop-next.next c.index.result.now c.loop-next.invariant.within inside c.index.ensures).0

pub overflow_add-here : goal.overflow_add-here
overflow_add-here c =
    let inside : c.loop-next.next < length c.loop-next.queue.items = search rules in
    let node = (node_inside (length c.args.lists.now) c.loop-next.levels.items c.loop-next.queue.items c.loop-next.next c.index.result.now c.loop-next.invariant.within inside c.index.ensures).0 in
    let small = (here_small (length c.args.lists.now) c.loop-next.levels.items _ c.index.result.now c.index-here.result.now c.loop-next.invariant.within node c.index-here.ensures).1 in
    omega (arith, small)

pub reach-requires : goal.reach-requires
reach-requires c =
    let inside : c.loop-next.next < length c.loop-next.queue.items = search rules in
    let node = (node_inside (length c.args.lists.now) c.loop-next.levels.items c.loop-next.queue.items c.loop-next.next c.index.result.now c.loop-next.invariant.within inside c.index.ensures).0 in
    let nodes : c.as_slice.result.now ≡ slice_index_or c.args.lists.now c.index.result.now c.as_slice.result.now = search rules in
    let len : vec_len c.loop-next.levels ≡ length c.loop-next.levels.items = search rules in
    rw (len, c.loop-next.invariant.within.count) ((nodes_below c.args.lists.now c.index.result.now c.as_slice.result.now c.requires.below node nodes).1)

pub loop-next-smaller : goal.loop-next-smaller
loop-next-smaller c =
    let inside : c.loop-next.next < length c.loop-next.queue.items = search rules in
    let nodes : c.as_slice.result.now ≡ slice_index_or c.args.lists.now c.index.result.now c.as_slice.result.now = search rules in
    let new : Trial = record { sums = c.reach.new.levels.items; pending = c.reach.new.queue.items } in
    let turn = turn_of c.args.lists.now c.loop-next.levels.items c.loop-next.queue.items c.loop-next.next c.index.result.now c.index-here.result.now c.as_slice.result.now new
    (record { within = c.loop-next.invariant.within; below = c.requires.below; inside = inside; node_read = c.index.ensures; here_read = c.index-here.ensures; nodes_read = nodes }) c.in_ok-reach.ensures in
    rw turn.left (let less = turn.tried.work in omega (arith, less))

pub loop-next-preserved : goal.loop-next-preserved
loop-next-preserved c =
    let inside : c.loop-next.next < length c.loop-next.queue.items = search rules in
    let nodes : c.as_slice.result.now ≡ slice_index_or c.args.lists.now c.index.result.now c.as_slice.result.now = search rules in
    let new : Trial = record { sums = c.reach.new.levels.items; pending = c.reach.new.queue.items } in
    let turn = turn_of c.args.lists.now c.loop-next.levels.items c.loop-next.queue.items c.loop-next.next c.index.result.now c.index-here.result.now c.as_slice.result.now new
    (record { within = c.loop-next.invariant.within; below = c.requires.below; inside = inside; node_read = c.index.ensures; here_read = c.index-here.ensures; nodes_read = nodes }) c.in_ok-reach.ensures in
    record {
      within = turn_within c.args.lists.now c.loop-next.levels.items c.loop-next.queue.items c.loop-next.next c.index-here.result.now c.index.result.now new turn c.loop-next.invariant.within;
      under_way = λ g are. turn_goes_on g c.args.lists.now c.args.source c.loop-next.levels.items c.loop-next.queue.items c.loop-next.next c.index-here.result.now c.index.result.now new are turn (c.loop-next.invariant.under_way g are);
    }

pub returns : goal.returns
returns c = λ g are.
    levels_are g c.args.lists.now c.args.source c.loop-next.levels.items c.loop-next.queue.items c.loop-next.next are (search rules) c.loop-next.invariant.within (c.loop-next.invariant.under_way g are)
