use Rattle.std.proofs.Common.{rules, arith, ◌≡◌, ◌∷◌, ◌++◌, [], length, ap}
use Rattle.gs_net.specs.Tales.{whole}
use Rattle.gs_callers.specs.Seats.{SeatAgrees, SeatTaken}
use Rattle.gs_node.specs.inside.Begun.{of_task}
use Rattle.gs_node.proofs.Dropping.{dropped_more}
use Rattle.gs_node.proofs.Starting.{all_head_at, all_rest_at, fault_more, map_step, zip_more}
use Rattle.gs_node.proofs.joins.join_all.Goals as goal

pub loop-one-preserved : goal.loop-one-preserved
loop-one-preserved g c =
    let rest : c.loop-one.one-iterator.rest.items ≡ c.in-Some.one ∷ c.next.new.self.rest.items = search rules in
    let seats : c.push_reserved.new.self.items ≡ c.loop-one.seats.items ++ c.join_one-seat.result.seat ∷ [] = search rules in
    let inlets : c.push_reserved-in-loop-one.new.self.items ≡ c.loop-one.inlets.items ++ c.join_one-seat.result.inlet ∷ [] = search rules in
    let even : length c.loop-one.seats.items ≡ length c.loop-one.inlets.items = omega (arith, c.loop-one.invariant.even) in
    record {
      next = search rules;
      finite = search rules;
      agree = zip_more (SeatAgrees c.args.params.now) g.I.Inlet.tale _ _ _ _ _ _ seats inlets c.loop-one.invariant.agree c.join_one-seat.ensures.agree;
      whose = map_step (λ s. s.whose) _ _ _ _ _ _ _ _ seats rest c.join_one-seat.ensures.whose c.loop-one.invariant.whose;
      items = map_step (λ i. whole (g.I.Inlet.tale i)) _ _ _ _ _ _ _ _ inlets rest c.join_one-seat.ensures.items c.loop-one.invariant.items;
      named = all_rest_at _ _ _ rest (λ b. of_task (λ t. t.receiver.params.now) b ≡ c.args.params.now) c.loop-one.invariant.named;
      taken = λ h. let both = c.with-met.ensures.short h in zip_more (SeatTaken c.args.params.now) g.I.Inlet.tale _ _ _ _ _ _ seats inlets (c.loop-one.invariant.taken both.0) (c.join_one-seat.ensures.taken both.1);
      fault = λ h. fault_more g.I.Inlet.faults _ _ _ _ _ inlets (c.with-met.ensures.fault h) c.loop-one.invariant.fault c.join_one-seat.ensures.fault;
      dropped = dropped_more c.args.params.now g.I.Inlet.tale (λ s. s.whose) _ _ _ _ _ _ _ _ _ seats inlets even c.with-met.ensures.dropped c.loop-one.invariant.dropped c.join_one-seat.ensures.dropped;
      few = omega (arith, c.with-met.ensures.dropped, c.join_one-seat.ensures.few, c.loop-one.invariant.few, c.push_reserved.ensures.len);
      count = (let n = ap length rest in omega (arith, c.loop-one.invariant.count, c.push_reserved.ensures.len));
      even = omega (arith, c.loop-one.invariant.even, c.push_reserved.ensures.len, c.push_reserved-in-loop-one.ensures.len);
      seat_room = (let n = ap length rest in omega (arith, c.push_reserved.ensures.capacity, c.push_reserved.ensures.len));
      inlet_room = (let n = ap length rest in omega (arith, c.push_reserved-in-loop-one.ensures.capacity, c.push_reserved-in-loop-one.ensures.len));
    }

pub join_one-seat-requires-clause-named : goal.join_one-seat-requires-clause-named
join_one-seat-requires-clause-named g c κs within =
    let rest : c.loop-one.one-iterator.rest.items ≡ c.in-Some.one ∷ c.next.new.self.rest.items = search rules in
    all_head_at _ _ _ rest (λ b. of_task (λ t. t.receiver.params.now) b ≡ c.args.params.now) c.loop-one.invariant.named
