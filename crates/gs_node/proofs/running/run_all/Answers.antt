use Rattle.std.proofs.Common.{arith, ◌≡◌, ◌≤◌, ◌∙◌, ℕ, length, vec_len, refl, ap, sym, subst, List, OnOk}
use Rattle.std.specs.Vec.{vec_capacity}
use mathlib.Core.List.{map-map}
use Rattle.gs_units.specs.declared.params.Link.{Link}
use Rattle.gs_net.specs.Tales.{whole}
use Rattle.gs_callers.specs.Sends.{SentAll, SentSoFar}
use Rattle.gs_callers.proofs.Steps.{in_step_new}
use Rattle.gs_respond.specs.Doors.{DoorAnswers}
use Rattle.gs_respond.specs.declared.responder.ResponderName.{ResponderName}
use Rattle.gs_node.proofs.Leaving.{sent_all, sent_so_far, shown_all, shown_so_far}
use Rattle.gs_node.proofs.Starting.{as_many, mapped_as_many, rose_either}
use Rattle.gs_node.proofs.running.run_all.Goals as goal

pub start_all-refused-requires-clause-count : goal.start_all-refused-requires-clause-count
start_all-refused-requires-clause-count g c κs within = mapped_as_many g.I.Inlet.tale _ _ c.requires.ready.count

pub run_unless-stop-requires-clause-step : goal.run_unless-stop-requires-clause-step
run_unless-stop-requires-clause-step g c κs within = in_step_new _ _ _ _ c.requires.ready.empty c.requires.ready.unsent c.requires.first

pub join_all-met-requires-clause-seats : goal.join_all-met-requires-clause-seats
join_all-met-requires-clause-seats g c κs within =
    let n = as_many _ _ _ _ c.start_all-refused.ensures.whose in
    let m : length c.args.hands.seats.items ≡ length c.args.hands.inlets.items = mapped_as_many g.I.Inlet.tale _ _ c.requires.ready.count in
    let le : vec_len c.start_all-refused.new.begun ≤ vec_capacity c.args.room.seats = omega (arith, n, m, c.requires.seats.1) in
    (c.requires.seats.0, le)

pub join_all-met-requires-clause-inlets : goal.join_all-met-requires-clause-inlets
join_all-met-requires-clause-inlets g c κs within =
    let n = as_many _ _ _ _ c.start_all-refused.ensures.whose in
    let m : length c.args.hands.seats.items ≡ length c.args.hands.inlets.items = mapped_as_many g.I.Inlet.tale _ _ c.requires.ready.count in
    let le : vec_len c.start_all-refused.new.begun ≤ vec_capacity c.args.room.inlets = omega (arith, n, m, c.requires.inlets.1) in
    (c.requires.inlets.0, le)

pub join_all-met-requires-clause-few : goal.join_all-met-requires-clause-few
join_all-met-requires-clause-few g c κs within =
    let n = as_many _ _ _ _ c.start_all-refused.ensures.whose in
    omega (arith, n, c.requires.ready.count, c.requires.ready.few)

pub returns-clause-ran : goal.returns-clause-ran
returns-clause-ran g c =
    let t = c.run_unless-stop in
    let name = c.wait_for_responder.ensures ∙ (c.start_one-asked.ensures.name ∙ c.new-task.ensures.name) in
    record {
      owners = c.join_all-met.ensures.whose ∙ c.start_all-refused.ensures.whose;
      agree = c.join_all-met.ensures.agree;
      items = map-map whole g.I.Inlet.tale _ ∙ (c.join_all-met.ensures.items ∙ (c.start_all-refused.ensures.items ∙ sym (map-map whole g.I.Inlet.tale _)));
      dropped = c.join_all-met.ensures.dropped;
      timer_seat = record { whose = t.ensures.same.whose ∙ c.requires.ready.whose; few = t.ensures.most; params = t.ensures.same.params ∙ c.requires.ready.params; begun = t.ensures.same.begun };
      sent = subst (λ (ls : List Link). SentSoFar ls t.new.seat.told (g.O.Outlet.sent t.new.outlet)) c.as_slice.ensures (sent_so_far c.as_slice.result.now t.new.seat (g.O.Outlet.sent t.new.outlet) t.new.publisher t.result t.ensures.ok t.ensures.err);
      shown = shown_so_far c.as_slice.result.now _ t.new.seat (g.O.Outlet.sent t.new.outlet) t.new.publisher t.result t.ensures.same.begun t.ensures.ok t.ensures.err;
      door = c.end-responded.ensures.items ∙ ap (λ (z : ResponderName). z.items) name;
      answers = subst (λ (node : ℕ). DoorAnswers node (g.D.Inlet.tale c.end-responded.result.door) (g.D.Inlet.replies c.end-responded.result.door)) (ap (λ (z : ResponderName). z.node) name) c.end-responded.ensures.answers;
      unstarted = λ none. absurd (cc);
    }

pub returns-clause-reasons : goal.returns-clause-reasons
returns-clause-reasons g c =
    let t = c.run_unless-stop in
    record {
      taken = c.join_all-met.ensures.taken;
      ticks = t.ensures.all;
      sent = subst (λ (ls : List Link). OnOk t.result (SentAll ls t.new.seat.told (g.O.Outlet.sent t.new.outlet))) c.as_slice.ensures (sent_all c.as_slice.result.now t.new.seat (g.O.Outlet.sent t.new.outlet) t.new.publisher t.result t.ensures.ok);
      shown = shown_all c.as_slice.result.now _ t.new.seat (g.O.Outlet.sent t.new.outlet) t.new.publisher t.result t.ensures.same.begun t.ensures.ok;
      made = λ h. refl;
      door = c.end-responded.ensures.taken;
      inlet_fault = c.join_all-met.ensures.fault;
      outlet_fault = t.ensures.cause;
      door_fault = c.end-responded.ensures.door;
      owing = c.end-responded.ensures.owes;
      clock_fault = c.end-responded.ensures.clock;
    }

pub returns-clause-refused : goal.returns-clause-refused
returns-clause-refused g c = λ h. rose_either _ _ _ _ c.start_all-refused.ensures.never_falls c.start_one-asked.ensures.never_falls c.start_all-refused.ensures.refused (c.start_one-asked.ensures.refused h)
