use Rattle.std.proofs.Common.{filter}
use Rattle.std.specs.List.{range_with_len}
use Rattle.gs_topo.specs.inside.Kept.{flag_at}
use Rattle.gs_topo.proofs.Building.{map_range_more}
use Rattle.gs_topo.proofs.build.neighbour_lists.Goals as goal

pub loop-v-preserved : goal.loop-v-preserved
loop-v-preserved c =
    let more = map_range_more (λ v. filter (flag_at c.args.flags.now c.args.n v) (range_with_len 0 c.args.n)) c.loop-v.v in
    let before = c.loop-v.invariant in
    let list = c.in_ok-neighbours.ensures in
    rw (more, ← before, ← list) c.in_ok-push.ensures.items
