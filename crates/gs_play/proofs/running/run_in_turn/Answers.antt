use Rattle.std.proofs.Common.{◌≡◌, ◌+◌, ◌<◌, ℕ, arith, ap, sym, subst, refl, ◌∙◌, inl, inr, List, length, slice_index_or, slice_set, length-set, get_or-set_same, get_or-set_other}
use Rattle.std.proofs.lemmas.Bool.{cases_eq}
use Rattle.std.proofs.lemmas.List.{get_or_default}
use Rattle.gs_run.specs.Nets.{net_of}
use Rattle.gs_calendar.specs.Course.{course_of}
use Rattle.gs_piece.specs.Pieces.{HasRows, IsPieceIn}
use Rattle.gs_piece.specs.declared.piece.Piece.{Piece}
use Rattle.gs_play.proofs.running.run_in_turn.Goals as goal

pub loop-i-init : goal.loop-i-init
loop-i-init g c = record {
  count = refl;
  done = λ k d a b h. absurd (omega (arith, h));
  rows = λ k d a b h. absurd (omega (arith, h));
  rest = λ k d h. refl;
}

pub run-requires-clause-piece : goal.run-requires-clause-piece
run-requires-clause-piece g c =
    let net = net_of c.args.plan.now in
    let course = course_of c.args.script.now in
    let i = c.loop-i.i in
    let d : Piece = c.index-pieces-i.result in
    let r = c.requires.ready.pieces i d c.loop-i-test.true in
    (r.0, r.1, subst (IsPieceIn net course r.0 r.1 c.args.m c.args.m) (sym (c.loop-i.invariant.rest i d (omega arith))) r.2)

pub loop-i-preserved : goal.loop-i-preserved
loop-i-preserved g c =
    let net = net_of c.args.plan.now in
    let course = course_of c.args.script.now in
    let m = c.args.m in
    let i = c.loop-i.i in
    let e : Piece = c.index-pieces-i.result in
    let old : List Piece = c.loop-i.pieces in
    let new : Piece = c.run.new.self in
    let was = c.loop-i.invariant in
    let count = was.count in
    let less = c.loop-i-test.true in
    let inside : i < length old = omega (arith, count, less) in
    let own : (k : ℕ) (d : Piece) → k ≡ i → slice_index_or (slice_set old i new) k d ≡ new = λ k d same. ap (λ (j : ℕ). slice_index_or (slice_set old i new) j d) same ∙ get_or-set_same old i new d inside in
    let before : (k : ℕ) (d : Piece) (a b : ℕ) → k ≡ i → IsPieceIn net course a b m m (slice_index_or c.args.pieces.now k d) → IsPieceIn net course a b m m (slice_index_or old i e) = λ k d a b same is.
    subst (IsPieceIn net course a b m m) (sym (was.rest i e (omega arith) ∙ ap (λ (j : ℕ). slice_index_or c.args.pieces.now j e) (sym same) ∙ get_or_default c.args.pieces.now k e d (omega (arith, same, less)))) is in
    record {
      count = length-set old i new ∙ was.count;
      done = λ k d a b h is. elim (cases_eq k i) [
        | inl same ↦ subst (IsPieceIn net course a b m (m + c.args.n)) (sym (own k d same)) (c.run.ensures.piece a b (before k d a b same is))
        | inr other ↦ subst (IsPieceIn net course a b m (m + c.args.n)) (sym (get_or-set_other old i k new d other)) (was.done k d a b (omega (arith, h, other)) is)
      ];
      rows = λ k d a b h is. elim (cases_eq k i) [
        | inl same ↦ subst (HasRows net course a b m c.args.n) (sym (own k d same)) (c.run.ensures.rows a b (before k d a b same is))
        | inr other ↦ subst (HasRows net course a b m c.args.n) (sym (get_or-set_other old i k new d other)) (was.rows k d a b (omega (arith, h, other)) is)
      ];
      rest = λ k d h. get_or-set_other old i k new d (λ e. omega (arith, e, h)) ∙ was.rest k d (omega (arith, h));
    }

pub returns-clause-run : goal.returns-clause-run
returns-clause-run g c =
    let stop = c.loop-i-test.false in
    record {
      pieces = λ i d a b h is. c.loop-i.invariant.done i d a b (omega (arith, h, stop)) is;
      rows = λ i d a b h is. c.loop-i.invariant.rows i d a b (omega (arith, h, stop)) is;
    }
