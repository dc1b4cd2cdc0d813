use Rattle.std.proofs.Common.{◌≡◌, ◌+◌, ◌<◌, ap, arith, subst, None}
use Rattle.gs_planfile.specs.declared.text.PlanText.{PlanText}
use Rattle.gs_world.specs.inside.Late.{stale_in, IsNoneStaleBefore}
use Rattle.gs_run.specs.Nets.{net_of}
use Rattle.gs_world.specs.Placed.{Placed}
use Rattle.gs_world.specs.inside.Seen.{world_in}
use Rattle.gs_world.proofs.Advancing.{ages_ahead}
use Rattle.gs_world.proofs.Upkeep.{none_stale_yet}
use Rattle.gs_world.proofs.world.World.admit_ages.Goals as goal

pub returns-then-from-self-clause-ok : goal.returns-then-from-self-clause-ok
returns-then-from-self-clause-ok c =
    let a = c.self.inside in
    let quanta = c.from.ensures in
    let test = c.if-from-self.true in
    let early : a.quanta < a.deadlines.stale = omega (arith, quanta, test) in
    subst (λ (p : Placed). stale_in (net_of p.plan) p.world ≡ None) c.self.view_is
    (none_stale_yet (net_of a.plan.now) (world_in a) a.deadlines.stale early c.self.invariant.deadlines.heard)

pub returns-in-None-clause-deadline : goal.returns-in-None-clause-deadline
returns-in-None-clause-deadline c =
    let a = c.self.inside in
    let oldest = c.from-in-None.ensures in
    let age = c.from-in-None-2.ensures in
    subst
    (λ (p : Placed). IsNoneStaleBefore (net_of p.plan) p.world (c.from-in-None.result + c.from-in-None-2.result))
    c.self.view_is
    (ages_ahead a c.deref.result.now c.oldest_heard.result c.text.result.now.age (c.from-in-None.result + c.from-in-None-2.result)
    c.deref.ensures.value c.oldest_heard.ensures
    (ap (λ (t : PlanText). t.age) c.text.ensures) (omega (arith, oldest, age)))
