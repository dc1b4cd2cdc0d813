use Rattle.std.proofs.Common.{◌≡◌, ◌+◌, ◌-◌, ◌<◌, ℕ, suc, arith, ap, sym, subst, ◌∙◌, inl, inr, None, Some, slice_index_or, rules}
use Rattle.std.proofs.lemmas.Bool.{cases_eq}
use Rattle.std.proofs.lemmas.List.{get_or_default}
use Rattle.gs_plan.proofs.Telling.{plan_is_graph}
use Rattle.gs_run.specs.Nets.{net_of}
use Rattle.gs_calendar.specs.Stale.{first_stale}
use Rattle.gs_seat.specs.Seats.{IsSeatAt}
use Rattle.gs_seat.specs.declared.seat.Seat.{Seat}
use Rattle.gs_piece.proofs.Clocks.{some_seat}
use Rattle.gs_piece.proofs.nodes.Nodes.first_stale.Goals as goal

pub overflow_cast-result : goal.overflow_cast-result
overflow_cast-result c =
    let p = c.args.plan.now in
    let few = (plan_is_graph p.text p.topo p.accepted p.graph).few in
    let is = c.requires.5 in
    let inside = is.inside in
    let seats = is.seats in
    let less = c.loop-i-test.true in
    let len = c.len-i-end.ensures in
    record { fits = omega (arith, few, inside, seats, less, len) }

pub overflow_add-result : goal.overflow_add-result
overflow_add-result c =
    let p = c.args.plan.now in
    let few = (plan_is_graph p.text p.topo p.accepted p.graph).few in
    let is = c.requires.5 in
    let inside = is.inside in
    let first = is.first in
    let seats = is.seats in
    let less = c.loop-i-test.true in
    let len = c.len-i-end.ensures in
    record { fits = omega (arith, few, inside, first, seats, less, len) }

pub loop-i-init : goal.loop-i-init
loop-i-init c = λ k d h. absurd (omega (arith, h))

pub loop-i-preserved : goal.loop-i-preserved
loop-i-preserved c = λ k d h course v by m hv is.
    let net = net_of c.args.plan.now in
    let seats = c.args.self.now.seats.items in
    let less = c.loop-i-test.true in
    let len = c.len-i-end.ensures in
    let none : c.first_stale.result ≡ None = search rules in
    elim (cases_eq k c.loop-i.i) [
      | inl same ↦ (let here : IsSeatAt net course v by m c.args.t c.index.result.now =
          subst (IsSeatAt net course v by m c.args.t) (sym (c.index.ensures ∙ ap (λ (j : ℕ). slice_index_or seats j c.index.result.now) (sym same) ∙ get_or_default seats k c.index.result.now d (omega (arith, same, less, len)))) is in
          sym (c.first_stale.ensures course v by m hv here) ∙ none)
      | inr other ↦ c.loop-i.invariant k d (omega (arith, h, other)) course v by m hv is
    ]

pub returns-in-Some-clause-some : goal.returns-in-Some-clause-some
returns-in-Some-clause-some c = λ course by a b m is.
    let net = net_of c.args.plan.now in
    let seats = c.args.self.now.seats.items in
    let less = c.loop-i-test.true in
    let len = c.len-i-end.ensures in
    let first = is.first in
    let count = is.seats in
    let inside = is.inside in
    let i = c.loop-i.i in
    let d : Seat = c.index.result.now in
    let here : a + i < b = omega (arith, less, len, count) in
    let own : IsSeatAt net course (a + i) (by (a + i)) m c.args.t d = subst (IsSeatAt net course (a + i) (by (a + i)) m c.args.t) (sym c.index.ensures) (is.seat i d here) in
    let place : c.args.self.now.first + i ≡ a + i = omega (arith, first) in
    record {
      low = omega (arith, first);
      high = omega (arith, first, here);
      none = λ v low high.
          let k : ℕ = v - a in
          let e : a + k ≡ v = omega (arith, low) in
          c.loop-i.invariant k d (omega (arith, e, high, first)) course v (by v) m (omega (arith, high, first, here, inside))
          (subst (λ (u : ℕ). IsSeatAt net course u (by u) m c.args.t (slice_index_or seats k d)) e (is.seat k d (omega (arith, e, high, first, here))));
      stale = subst (λ v. first_stale net course (suc c.args.t) v ≡ Some c.in-Some.place) (sym place) (sym (c.first_stale.ensures course (a + i) (by (a + i)) m (omega (arith, here, inside)) own) ∙ c.in-Some.is);
    }

pub returns-clause-none : goal.returns-clause-none
returns-clause-none c = λ course by a b m is v low high.
    let net = net_of c.args.plan.now in
    let seats = c.args.self.now.seats.items in
    let stop = c.loop-i-test.false in
    let len = c.len-i-end.ensures in
    let count = is.seats in
    let inside = is.inside in
    let k : ℕ = v - a in
    let e : a + k ≡ v = omega (arith, low) in
    let d : Seat = some_seat seats (omega (arith, e, high, count)) in
    c.loop-i.invariant k d (omega (arith, e, high, count, stop, len)) course v (by v) m (omega (arith, high, inside))
    (subst (λ (u : ℕ). IsSeatAt net course u (by u) m c.args.t (slice_index_or seats k d)) e (is.seat k d (omega (arith, e, high))))
