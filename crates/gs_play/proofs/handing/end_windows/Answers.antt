use Rattle.std.proofs.Common.{◌≡◌, ◌<◌, ℕ, arith, ap, sym, subst, refl, ◌∙◌, inl, inr, List, length, slice_index_or, slice_set, length-set, get_or-set_same, get_or-set_other}
use Rattle.std.proofs.lemmas.Bool.{cases_eq}
use Rattle.std.proofs.lemmas.List.{get_or_default}
use Rattle.gs_piece.specs.Pieces.{IsPiece, IsPieceIn}
use Rattle.gs_piece.specs.declared.piece.Piece.{Piece}
use Rattle.gs_play.specs.inside.Pieces.{CanEnd}
use Rattle.gs_play.proofs.handing.end_windows.Goals as goal

pub loop-i-init : goal.loop-i-init
loop-i-init c = record {
  count = refl;
  done = λ k d net course by a b m t h. absurd (omega (arith, h));
  rest = λ k d h. refl;
}

pub end_window-requires : goal.end_window-requires
end_window-requires c =
    let i = c.loop-i.i in
    let d : Piece = c.index-pieces-i.result in
    let r : CanEnd (slice_index_or c.loop-i.pieces i d) = subst CanEnd (sym (c.loop-i.invariant.rest i d (omega arith))) (c.requires i d c.loop-i-test.true) in
    (r.net, r.course, r.by, r.first, r.end, r.begun, r.now, r.handed, r.is)

pub loop-i-preserved : goal.loop-i-preserved
loop-i-preserved c =
    let i = c.loop-i.i in
    let e : Piece = c.index-pieces-i.result in
    let old : List Piece = c.loop-i.pieces in
    let new : Piece = c.end_window.new.self in
    let was = c.loop-i.invariant in
    let count = was.count in
    let less = c.loop-i-test.true in
    let inside : i < length old = omega (arith, count, less) in
    let own : (k : ℕ) (d : Piece) → k ≡ i → slice_index_or (slice_set old i new) k d ≡ new = λ k d same. ap (λ (j : ℕ). slice_index_or (slice_set old i new) j d) same ∙ get_or-set_same old i new d inside in
    record {
      count = length-set old i new ∙ was.count;
      done = λ k d net course by a b m t h all is. elim (cases_eq k i) [
        | inl same ↦ subst (IsPieceIn net course a b t t) (sym (own k d same)) (c.end_window.ensures net course by a b m t all
            (subst (IsPiece net course by a b m t) (sym (was.rest i e (omega arith) ∙ ap (λ (j : ℕ). slice_index_or c.args.pieces.now j e) (sym same) ∙ get_or_default c.args.pieces.now k e d (omega (arith, same, less)))) is))
        | inr other ↦ subst (IsPieceIn net course a b t t) (sym (get_or-set_other old i k new d other)) (was.done k d net course by a b m t (omega (arith, h, other)) all is)
      ];
      rest = λ k d h. get_or-set_other old i k new d (λ e. omega (arith, e, h)) ∙ was.rest k d (omega (arith, h));
    }

pub returns-clause-pieces : goal.returns-clause-pieces
returns-clause-pieces c = λ i d net course by a b m t h all is. let stop = c.loop-i-test.false in c.loop-i.invariant.done i d net course by a b m t (omega (arith, h, stop)) all is
