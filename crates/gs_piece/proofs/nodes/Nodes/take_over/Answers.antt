use Rattle.std.proofs.Common.{◌≡◌, ◌+◌, ◌-◌, ℕ, ap, sym, subst, arith, slice_index_or, rules}
use Rattle.gs_run.specs.Nets.{net_of}
use Rattle.gs_calendar.specs.Course.{course_of}
use Rattle.gs_seat.specs.Held.{handed}
use Rattle.gs_seat.specs.Seats.{IsSeatAt}
use Rattle.gs_seat.specs.declared.seat.Seat.{Seat}
use Rattle.gs_piece.proofs.Turns.{nodes_took, sets_of}
use Rattle.gs_piece.proofs.nodes.Nodes.take_over.Goals as goal

pub take_over-requires-clause-seat : goal.take_over-requires-clause-seat
take_over-requires-clause-seat c =
    let net = net_of c.args.plan.now in
    let course = course_of c.args.script.now in
    let r = c.requires.nodes in
    let old = c.args.self.now in
    let i : ℕ = c.args.to - old.first in
    let low = r.7 in
    let high = r.8 in
    let is = r.10 in
    let first = is.first in
    let place : r.1 + i ≡ c.args.to = omega (arith, low, first) in
    let seat = is.seat i c.index_mut.result.now (omega (arith, place, high)) in (
      r.0 c.args.to,
      r.3,
      r.4,
      r.5,
      r.6,
      r.9,
      subst (IsSeatAt net course c.args.to (r.0 c.args.to) r.3 r.4) (sym c.index_mut.ensures.value)
          (subst (λ v. IsSeatAt net course v (r.0 v) r.3 r.4 (slice_index_or old.seats.items i c.index_mut.result.now)) place seat),
    )

pub returns : goal.returns
returns c = λ by a b m t end window low high sent is.
    let net = net_of c.args.plan.now in
    let course = course_of c.args.script.now in
    let old = c.args.self.now in
    let i : ℕ = c.args.to - old.first in
    let first = is.first in
    let seats = is.seats in
    let place : a + i ≡ c.args.to = omega (arith, low, first) in
    let seat = is.seat i c.index_mut.result.now (omega (arith, place, high)) in
    let s : Seat = c.take_over.new.self in
    let before : IsSeatAt net course c.args.to (by c.args.to) m t c.index_mut.result.now = subst (IsSeatAt net course c.args.to (by c.args.to) m t) (sym c.index_mut.ensures.value)
    (subst (λ v. IsSeatAt net course v (by v) m t (slice_index_or old.seats.items i c.index_mut.result.now)) place seat) in
    let taken = c.take_over.ensures (by c.args.to) m t end window sent before in
    let done : IsSeatAt net course c.args.to (handed (by c.args.to) c.args.from t) m t s = search rules in
    nodes_took net course by a b m t i c.args.from c.args.to old c.look.new.self s place high
    (sets_of i s old c.look.new.self (omega (arith, place, high, seats)) c.look.ensures.same.0 (ap (λ (v : _). v.items) c.look.ensures.same.1) c.look.ensures.steps c.look.ensures.wake c.look.ensures.fast c.look.ensures.sends)
    done is
