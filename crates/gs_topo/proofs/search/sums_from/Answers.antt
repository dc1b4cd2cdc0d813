use Rattle.std.proofs.Common.{rules, ◌≡◌, ◌<◌, ◌≤◌, [], ◌∷◌, All, length, replicate, slice_index, slice_index_or}
use Rattle.std.specs.List.{swap_remove}
use Rattle.gs_topo.specs.inside.Search.{Trial, all_tried, far_sum}
use Rattle.gs_topo.proofs.Members.{no_members}
use Rattle.gs_topo.proofs.Searching.{begins, begins_settled, begins_within, ends}
use Rattle.gs_topo.proofs.Settling.{pick_goes_on, picked}
use Rattle.gs_topo.proofs.search.sums_from.Goals as goal

pub loop-sums-init : goal.loop-sums-init
loop-sums-init c =
    let filled : c.in_ok-sums.sums.items ≡ replicate (length c.args.all.now) far_sum = search rules in
    let queue : c.push.new.self.items ≡ c.args.source ∷ [] = search rules in
    rw (filled, queue) (record {
      within = begins_within (length c.args.all.now) far_sum c.args.source c.requires.source;
      settled = begins_settled (length c.args.all.now) far_sum c.args.source c.requires.source;
      under_way = λ adj k steps. begins (length c.args.all.now) adj k far_sum c.args.source c.requires.source;
    })

pub loop-sums-smaller : goal.loop-sums-smaller
loop-sums-smaller c =
    let steps : c.as_slice.result.now ≡ slice_index_or c.args.all.now c.swap_remove-node.result c.as_slice.result.now = search rules in
    let place : c.least_place-place.result < length c.loop-sums.pending.items = search rules in
    let least : All (λ x. slice_index c.loop-sums.sums.items (slice_index c.loop-sums.pending.items c.least_place-place.result) ≤ slice_index c.loop-sums.sums.items x) c.loop-sums.pending.items =
    rw (← c.deref.ensures.value, ← c.deref-in-loop-sums.ensures.value) c.least_place-place.ensures.least in
    let new : Trial = record { sums = c.relax.new.sums.items; pending = c.relax.new.pending.items } in
    let state : new ≡ all_tried c.index-here.result.now (record { sums = c.loop-sums.sums.items; pending = swap_remove c.loop-sums.pending.items c.least_place-place.result c.swap_remove-node.result }) c.as_slice.result.now =
    rw (← c.swap_remove-node.ensures.items) c.in_ok-relax.ensures in
    let pick = picked c.args.all.now c.loop-sums.sums.items c.loop-sums.pending.items c.least_place-place.result c.swap_remove-node.result c.index-here.result.now c.as_slice.result.now new
    (record { within = c.loop-sums.invariant.within; settled = c.loop-sums.invariant.settled; all_inside = c.requires.inside; inside = place; least = least; node_read = c.swap_remove-node.ensures.value; here_read = c.index-here.ensures; steps_read = steps }) state in
    pick.less

pub loop-sums-preserved : goal.loop-sums-preserved
loop-sums-preserved c =
    let steps : c.as_slice.result.now ≡ slice_index_or c.args.all.now c.swap_remove-node.result c.as_slice.result.now = search rules in
    let place : c.least_place-place.result < length c.loop-sums.pending.items = search rules in
    let least : All (λ x. slice_index c.loop-sums.sums.items (slice_index c.loop-sums.pending.items c.least_place-place.result) ≤ slice_index c.loop-sums.sums.items x) c.loop-sums.pending.items =
    rw (← c.deref.ensures.value, ← c.deref-in-loop-sums.ensures.value) c.least_place-place.ensures.least in
    let new : Trial = record { sums = c.relax.new.sums.items; pending = c.relax.new.pending.items } in
    let state : new ≡ all_tried c.index-here.result.now (record { sums = c.loop-sums.sums.items; pending = swap_remove c.loop-sums.pending.items c.least_place-place.result c.swap_remove-node.result }) c.as_slice.result.now =
    rw (← c.swap_remove-node.ensures.items) c.in_ok-relax.ensures in
    let pick = picked c.args.all.now c.loop-sums.sums.items c.loop-sums.pending.items c.least_place-place.result c.swap_remove-node.result c.index-here.result.now c.as_slice.result.now new
    (record { within = c.loop-sums.invariant.within; settled = c.loop-sums.invariant.settled; all_inside = c.requires.inside; inside = place; least = least; node_read = c.swap_remove-node.ensures.value; here_read = c.index-here.ensures; steps_read = steps }) state in
    record {
      within = pick.within;
      settled = pick.settled;
      under_way = λ adj k are. pick_goes_on adj k c.args.all.now c.args.source c.loop-sums.sums.items c.loop-sums.pending.items c.swap_remove-node.result c.index-here.result.now new are pick (c.loop-sums.invariant.under_way adj k are);
    }

pub returns : goal.returns
returns c =
    let none : length c.loop-sums.pending.items ≤ 0 = search rules in
    let empty : c.loop-sums.pending.items ≡ [] = no_members c.loop-sums.pending.items none in
    λ adj k are. ends (length c.args.all.now) adj k far_sum c.args.source c.loop-sums.sums.items (rw empty at c.loop-sums.invariant.within) (rw empty at c.loop-sums.invariant.under_way adj k are)
