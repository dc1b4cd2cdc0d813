use Rattle.std.proofs.Common.{◌≡◌, ◌+◌, ◌-◌, ℕ, arith, ap, sym, subst, ◌∙◌, inl, inr, slice_index_or}
use Rattle.std.proofs.lemmas.Bool.{cases_eq}
use Rattle.std.proofs.lemmas.List.{get_or_default}
use Rattle.gs_piece.proofs.Clocks.{some_seat}
use Rattle.gs_seat.specs.Seats.{IsSeatAt}
use Rattle.gs_seat.specs.declared.seat.Seat.{Seat}
use Rattle.gs_piece.proofs.nodes.Nodes.oldest.Goals as goal

pub loop-i-init : goal.loop-i-init
loop-i-init c = λ k d h. absurd (omega (arith, h))

pub loop-i-preserved : goal.loop-i-preserved
loop-i-preserved c = λ k d h net course v x by m t hv hx is.
    let low = c.min-oldest.ensures in
    elim (cases_eq k c.loop-i.i) [
      | inl same ↦ (let seats = c.args.self.now.seats.items in
          let here : IsSeatAt net course v by m t c.index.result.now =
          subst (IsSeatAt net course v by m t) (sym (c.index.ensures ∙ ap (λ (j : ℕ). slice_index_or seats j c.index.result.now) (sym same) ∙ get_or_default seats k c.index.result.now d (let len = c.len-i-end.ensures in let less = c.loop-i-test.true in omega (arith, same, less, len)))) is in
          let heard = c.oldest.ensures net course v x by m t hv hx here in
          omega (arith, heard, low))
      | inr other ↦ (let before = c.loop-i.invariant k d (omega (arith, h, other)) net course v x by m t hv hx is in omega (arith, before, low))
    ]

pub returns : goal.returns
returns c = λ net course by a b m t v i is low high hi.
    let seats = is.seats in
    let stop = c.loop-i-test.false in
    let inside = is.inside in
    let len = c.len-i-end.ensures in
    let k : ℕ = v - a in
    let place : a + k ≡ v = omega (arith, low) in
    let d : Seat = some_seat c.args.self.now.seats.items (omega (arith, place, high, seats)) in
    c.loop-i.invariant k d (omega (arith, place, high, seats, stop, len)) net course v i (by v) m t (omega (arith, high, inside)) hi
    (subst (λ (u : ℕ). IsSeatAt net course u (by u) m t (slice_index_or c.args.self.now.seats.items k d)) place (is.seat k d (omega (arith, place, high))))
