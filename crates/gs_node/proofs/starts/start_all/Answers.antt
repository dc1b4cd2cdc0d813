use Rattle.std.proofs.Common.{rules, arith, ◌≡◌, ◌∙◌, ◌∷◌, ◌++◌, [], ℕ, length, Some, None, is_some, true, ap, sym}
use Rattle.gs_net.specs.Tales.{IsFresh, whole}
use Rattle.gs_callers.specs.declared.listening.ReceiverName.{ReceiverName}
use Rattle.gs_node.specs.inside.Begun.{IsNewSeat, of_task}
use Rattle.gs_node.proofs.Starting.{all_head_at, all_head_of, all_push, all_rest_at, all_rest_of, map_step, part_is, rose_either}
use Rattle.gs_node.proofs.starts.start_all.Goals as goal

pub unreachable-requires-in_default-whose : goal.unreachable-requires-in_default-whose
unreachable-requires-in_default-whose g c =
    let rest : c.loop-inlet.waiting.rest.items ≡ c.in-Some-next.seat ∷ c.next-in-loop-inlet.new.self.rest.items = search rules in
    let new : IsNewSeat c.in-Some-next.seat = all_head_at _ _ _ rest IsNewSeat c.loop-inlet.invariant.seats in
    let none : c.in-Some-next.seat.whose ≡ None = search rules in
    let some : is_some c.in-Some-next.seat.whose ≡ true = new.others in
    absurd (cc (none, some))

pub new-task-requires-clause-seat : goal.new-task-requires-clause-seat
new-task-requires-clause-seat g c =
    let rest : c.loop-inlet.waiting.rest.items ≡ c.in-Some-next.seat ∷ c.next-in-loop-inlet.new.self.rest.items = search rules in
    let new : IsNewSeat c.in-Some-next.seat = all_head_at _ _ _ rest IsNewSeat c.loop-inlet.invariant.seats in
    let some : c.in-Some-next.seat.whose ≡ Some c.in-Some-whose.neighbour = search rules in
    (new.empty, some)

pub new-task-requires-clause-fresh : goal.new-task-requires-clause-fresh
new-task-requires-clause-fresh g c =
    let inlets : c.loop-inlet.inlet-iterator.rest.items ≡ c.in-Some.inlet ∷ c.next.new.self.rest.items = search rules in
    all_head_of g.I.Inlet.tale _ _ _ inlets IsFresh c.loop-inlet.invariant.inlets

pub loop-inlet-preserved : goal.loop-inlet-preserved
loop-inlet-preserved g c =
    let inlets : c.loop-inlet.inlet-iterator.rest.items ≡ c.in-Some.inlet ∷ c.next.new.self.rest.items = search rules in
    let rest : c.loop-inlet.waiting.rest.items ≡ c.in-Some-next.seat ∷ c.next-in-loop-inlet.new.self.rest.items = search rules in
    let pushed : c.push_reserved.new.self.items ≡ c.loop-inlet.begun.items ++ c.start_one-one.result ∷ [] = search rules in
    let some : c.in-Some-next.seat.whose ≡ Some c.in-Some-whose.neighbour = search rules in
    let name = c.start_one-one.ensures.name in
    record {
      next = search rules;
      finite = search rules;
      params = all_push _ _ _ pushed (λ b. of_task (λ t. t.receiver.params.now) b ≡ c.args.params.now) c.loop-inlet.invariant.params (part_is c.start_one-one.result (λ (z : ReceiverName). z.params) (λ t. record { params = t.receiver.params.now; neighbour = t.receiver.neighbour; items = whole (g.I.Inlet.tale t.receiver.inlet) }) _ _ name c.new-task.ensures.params);
      whose = map_step _ (λ s. s.whose) _ _ _ _ _ _ _ pushed rest (ap (λ (n : ℕ). Some n) (part_is c.start_one-one.result (λ (z : ReceiverName). z.neighbour) (λ t. record { params = t.receiver.params.now; neighbour = t.receiver.neighbour; items = whole (g.I.Inlet.tale t.receiver.inlet) }) _ _ name c.new-task.ensures.neighbour) ∙ sym some) c.loop-inlet.invariant.whose;
      items = map_step _ (λ i. whole (g.I.Inlet.tale i)) _ _ _ _ _ _ _ pushed inlets (part_is c.start_one-one.result (λ (z : ReceiverName). z.items) (λ t. record { params = t.receiver.params.now; neighbour = t.receiver.neighbour; items = whole (g.I.Inlet.tale t.receiver.inlet) }) _ _ name (ap (λ i. whole (g.I.Inlet.tale i)) c.new-task.ensures.inlet)) c.loop-inlet.invariant.items;
      seats = all_rest_at _ _ _ rest IsNewSeat c.loop-inlet.invariant.seats;
      inlets = all_rest_of g.I.Inlet.tale _ _ _ inlets IsFresh c.loop-inlet.invariant.inlets;
      count = (let m = ap length rest in let n = ap length inlets in omega (arith, c.loop-inlet.invariant.count));
      room = (let n = ap length inlets in omega (arith, c.push_reserved.ensures.capacity, c.push_reserved.ensures.len));
      faults = omega (arith, c.loop-inlet.invariant.faults, c.start_one-one.ensures.never_falls);
      refused = λ h. rose_either _ _ _ _ c.loop-inlet.invariant.faults c.start_one-one.ensures.never_falls c.loop-inlet.invariant.refused (c.start_one-one.ensures.refused h);
    }
