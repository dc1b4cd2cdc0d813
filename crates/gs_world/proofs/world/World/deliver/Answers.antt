use Rattle.std.proofs.Common.{ap, arith}
use Rattle.gs_planfile.specs.declared.text.PlanText.{PlanText}
use Rattle.gs_run.specs.Nets.{net_of}
use Rattle.gs_world.proofs.Placing.{room_inside, seat_read}
use Rattle.gs_world.proofs.Delivering.{KeepsHearing, admitted_inside, delivered_effect, delivered_inside, hearing_has_no_fault, place_inside, sender_place}
use Rattle.gs_world.proofs.world.World.deliver.Goals as goal

pub index_mut-requires : goal.index_mut-requires
index_mut-requires c =
    let a = c.self.inside in
    let may =
    admitted_inside a c.args.self.now c.args.from c.args.to c.args.seq c.in_ok-i.i c.in_ok-i.sent c.self.view_is
    c.in_ok-i.ensures.ok in
    let node = may.node in
    let room = room_inside a c.self.invariant in
    omega (arith, node, room)

pub hear-requires-clause-place : goal.hear-requires-clause-place
hear-requires-clause-place c =
    let a = c.self.inside in
    let may =
    admitted_inside a c.args.self.now c.args.from c.args.to c.args.seq c.in_ok-i.i c.in_ok-i.sent c.self.view_is
    c.in_ok-i.ensures.ok in
    sender_place a c.args.from c.args.to c.args.seq c.in_ok-i.i c.in_ok-i.sent c.index_mut.result.now c.self.invariant
    may c.index_mut.ensures.value

pub hear-requires-clause-heard : goal.hear-requires-clause-heard
hear-requires-clause-heard c =
    let a = c.self.inside in
    let may =
    admitted_inside a c.args.self.now c.args.from c.args.to c.args.seq c.in_ok-i.i c.in_ok-i.sent c.self.view_is
    c.in_ok-i.ensures.ok in
    let at = (place_inside (net_of a.plan.now) c.args.to c.args.from c.in_ok-i.i may.place).0 in
    let count =
    (seat_read a c.self.invariant c.args.to c.index_mut.result.now may.node c.index_mut.ensures.value).heard in
    omega (arith, at, count)

pub hear-requires-clause-no_fault : goal.hear-requires-clause-no_fault
hear-requires-clause-no_fault c =
    let a = c.self.inside in
    let may =
    admitted_inside a c.args.self.now c.args.from c.args.to c.args.seq c.in_ok-i.i c.in_ok-i.sent c.self.view_is
    c.in_ok-i.ensures.ok in
    hearing_has_no_fault a c.args.from c.args.to c.args.seq c.in_ok-i.i c.in_ok-i.sent c.index_mut.result.now
    c.self.invariant may c.index_mut.ensures.value

pub invariant_of-self : goal.invariant_of-self
invariant_of-self c =
    let a = c.self.inside in
    let may =
    admitted_inside a c.args.self.now c.args.from c.args.to c.args.seq c.in_ok-i.i c.in_ok-i.sent c.self.view_is
    c.in_ok-i.ensures.ok in
    let text = ap (λ (t : PlanText). t.age) c.text.ensures in
    let sent = c.quantum.ensures in
    let low = c.from.ensures in
    let age = c.from-2.ensures in
    let by = c.with_stale-self-inside.ensures.by in
    let keeps : KeepsHearing a c.in_ok-i.sent c.with_stale-self-inside.result = record {
      sooner = c.with_stale-self-inside.ensures.sooner;
      by = omega (arith, by, text, sent, low, age);
      same = c.with_stale-self-inside.ensures.same;
    } in
    delivered_inside a c.args.from c.args.to c.args.seq c.in_ok-i.i c.in_ok-i.sent c.index_mut.result.now
    c.hear.new.self c.with_stale-self-inside.result c.self.invariant may c.index_mut.ensures.value
    c.hear.ensures.told c.hear.ensures.member keeps

pub returns-clause-effect : goal.returns-clause-effect
returns-clause-effect c =
    let a = c.self.inside in
    let may =
    admitted_inside a c.args.self.now c.args.from c.args.to c.args.seq c.in_ok-i.i c.in_ok-i.sent c.self.view_is
    c.in_ok-i.ensures.ok in
    delivered_effect a c.args.self.now c.args.from c.args.to c.args.seq c.in_ok-i.i c.in_ok-i.sent
    c.index_mut.result.now c.hear.new.self c.with_stale-self-inside.result c.self.invariant c.self.view_is may
    c.index_mut.ensures.value
    c.hear.ensures.member
