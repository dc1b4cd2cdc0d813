use Rattle.std.proofs.Common.{◌+◌, ◌-◌, map}
use Rattle.std.specs.List.{range_with_len}
use Rattle.gs_topo.specs.inside.Kept.{flag_at}
use Rattle.gs_topo.proofs.Building.{pairs_more}
use Rattle.gs_topo.proofs.build.edge_list.Goals as goal

pub loop-a-preserved : goal.loop-a-preserved
loop-a-preserved c =
    let more = pairs_more (λ e. flag_at c.args.flags.now c.args.n e.0 e.1) (λ a. map (λ b. (a, b)) (range_with_len (a + 1) (c.args.n - (a + 1)))) c.loop-a.a in
    let added = c.in_ok-add_edges.ensures in
    let before = c.loop-a.invariant in
    rw (more, ← before) added
