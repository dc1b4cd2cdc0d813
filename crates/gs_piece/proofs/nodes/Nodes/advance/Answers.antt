use Rattle.std.proofs.Common.{◌<◌, ◌+◌, ℕ, sym, subst, ap, List, length, slice_index, slice_index_or, false, Bool, ◌∙◌}
use Rattle.gs_seat.specs.declared.seat.Seat.{Seat}
use Rattle.gs_piece.specs.Columns.{AreSeats}
use Rattle.gs_piece.proofs.nodes.Nodes.advance.Goals as goal

pub advance-requires-clause-read : goal.advance-requires-clause-read
advance-requires-clause-read c =
    let r = c.requires.read in
    (r.0, r.1, r.2, r.3, r.4, subst (λ (xs : List Seat). AreSeats r.0 r.1 r.2 r.3 r.4 c.args.t xs) (sym c.deref.ensures.value) r.5)

pub returns-clause-slow : goal.returns-clause-slow
returns-clause-slow c = λ i inside slow.
    let steps = c.deref-2.ensures.value in
    let flags = c.deref-3.ensures.value in
    c.advance.ensures.slow i
    (subst (λ (xs : List Bool). i < length xs) (sym flags) inside)
    (ap (λ (xs : List Bool). slice_index_or xs i false) flags ∙ slow)
    ∙ ap (λ (xs : List ℕ). slice_index c.args.clocks.now i + slice_index xs i) steps

pub returns-clause-fast : goal.returns-clause-fast
returns-clause-fast c = λ p s by a m i are inside fast.
    let seats = c.deref.ensures.value in
    let flags = c.deref-3.ensures.value in
    c.advance.ensures.fast p s by a m i
    (subst (λ (xs : List Seat). AreSeats p s by a m c.args.t xs) (sym seats) are)
    (subst (λ (xs : List Bool). i < length xs) (sym flags) inside)
    (ap (λ (xs : List Bool). slice_index_or xs i false) flags ∙ fast)
