use Rattle.std.proofs.Common.{◌≡◌, ◌+◌, ◌<◌, ◌∙◌, ap, arith, subst, None, Some}
use Rattle.gs_planfile.specs.declared.text.PlanText.{PlanText}
use Rattle.gs_world.specs.inside.Late.{IsNoneDueBefore, due_in}
use Rattle.gs_run.specs.Nets.{net_of}
use Rattle.gs_world.specs.Placed.{Placed}
use Rattle.gs_world.specs.inside.Seen.{world_in}
use Rattle.gs_run.specs.Why.{at_node}
use Rattle.gs_run.specs.declared.refused.Refused.TheVariants.{TickDue}
use Rattle.gs_world.proofs.Advancing.{due_node, due_read, few_nodes, ticks_ahead}
use Rattle.gs_world.proofs.Upkeep.{none_due}
use Rattle.gs_world.proofs.world.World.admit_ticks.Goals as goal

pub returns-then-from-self-clause-ok : goal.returns-then-from-self-clause-ok
returns-then-from-self-clause-ok c =
    let a = c.self.inside in
    let quanta = c.from.ensures in
    let test = c.if-from-self.true in
    let early : a.quanta < a.deadlines.due = omega (arith, quanta, test) in
    subst (λ (p : Placed). due_in (net_of p.plan) p.world ≡ None) c.self.view_is
    (none_due (net_of a.plan.now) (world_in a) a.deadlines.due early c.self.invariant.deadlines.ticks)

pub overflow_cast-result : goal.overflow_cast-result
overflow_cast-result c =
    let a = c.self.inside in
    let due =
    due_read a c.text.result.now c.deref.result.now c.first_due.result c.text.ensures c.deref.ensures.value
    c.first_due.ensures
    ∙ c.in-Some.is in
    let found = due_node a c.in-Some.v c.self.invariant due in
    let few = few_nodes a in
    omega (arith, found, few)

pub returns-in-Some-clause-err : goal.returns-in-Some-clause-err
returns-in-Some-clause-err c =
    let a = c.self.inside in
    let due =
    due_read a c.text.result.now c.deref.result.now c.first_due.result c.text.ensures c.deref.ensures.value
    c.first_due.ensures
    ∙ c.in-Some.is in
    subst (λ (p : Placed). due_in (net_of p.plan) p.world ≡ Some (TickDue c.in-Some.v)) c.self.view_is
    (ap (at_node TickDue) due)

pub returns-in-None-clause-ok : goal.returns-in-None-clause-ok
returns-in-None-clause-ok c =
    let a = c.self.inside in
    let due =
    due_read a c.text.result.now c.deref.result.now c.first_due.result c.text.ensures c.deref.ensures.value
    c.first_due.ensures
    ∙ c.in-None.is in
    subst (λ (p : Placed). due_in (net_of p.plan) p.world ≡ None) c.self.view_is (ap (at_node TickDue) due)

pub returns-in-None-clause-deadline : goal.returns-in-None-clause-deadline
returns-in-None-clause-deadline c =
    let a = c.self.inside in
    let oldest = c.from-in-None.ensures in
    let gap = c.from-in-None-2.ensures in
    subst
    (λ (p : Placed). IsNoneDueBefore (net_of p.plan) p.world (c.from-in-None.result + c.from-in-None-2.result))
    c.self.view_is
    (ticks_ahead a c.deref-in-None.result.now c.oldest_tick.result c.text.result.now.tick (c.from-in-None.result + c.from-in-None-2.result)
    c.deref-in-None.ensures.value c.oldest_tick.ensures
    (ap (λ (t : PlanText). t.tick) c.text.ensures) (omega (arith, oldest, gap)))
