use Rattle.std.proofs.Common.{arith, append_assoc}
use Rattle.gs_topo.specs.inside.Kept.{flag_at}
use Rattle.gs_topo.proofs.Building.{row_more}
use Rattle.gs_topo.proofs.build.add_edges.Goals as goal

pub loop-b-preserved : goal.loop-b-preserved
loop-b-preserved c =
    let more = row_more (λ e. flag_at c.args.flags.now c.args.n e.0 e.1) c.args.a c.loop-b.b (omega arith) in
    let added = c.in_ok-push_if.ensures in
    let is = c.is_flagged.ensures in
    let before = c.loop-b.invariant in
    rw (more, ← append_assoc, ← before, ← is) added
