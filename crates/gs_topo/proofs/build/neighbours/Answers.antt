use Rattle.gs_topo.specs.inside.Kept.{flag_at}
use Rattle.gs_topo.proofs.Building.{filter_range_more}
use Rattle.gs_topo.proofs.build.neighbours.Goals as goal

pub loop-w-preserved : goal.loop-w-preserved
loop-w-preserved c =
    let more = filter_range_more (flag_at c.args.flags.now c.args.n c.args.v) c.loop-w.w in
    let added = c.in_ok-push_if.ensures in
    let is = c.is_flagged.ensures in
    let before = c.loop-w.invariant in
    rw (more, ← before, ← is) added
