use Rattle.std.proofs.Common.{◌≡◌, ◌∙◌, ap, length, replicate, rules}
use Rattle.std.proofs.lemmas.Result.{IfOk-weaker}
use Rattle.gs_run.specs.Nets.{net_of}
use Rattle.gs_world.specs.Placed.{Placed}
use Rattle.gs_run.specs.World.{World, world_at_start, world_at_start_each}
use Rattle.gs_world.proofs.Starting.{same_start}
use Rattle.gs_world.proofs.world.World.start.Goals as goal

pub returns : goal.returns
returns c =
    let p = c.args.plan.now in
    let l0s : c.deref.result.now ≡ replicate (length c.args.hw.now) c.args.l0 = search rules in
    let same = same_start (net_of p) c.args.hw.now c.deref.result.now c.args.l0 l0s c.requires.nodes in
    let placed : World → Placed = λ w. record { plan = p; world = w } in
    IfOk-weaker c.start_each.result
    (λ (world : Placed). world ≡ placed (world_at_start_each (net_of p) c.args.hw.now c.deref.result.now))
    (λ (world : Placed). world ≡ placed (world_at_start (net_of p) c.args.hw.now c.args.l0))
    (λ world is. is ∙ ap placed same) c.start_each.ensures
