use Rattle.std.proofs.Common.{◌+◌, ◌*◌, ◌≤◌, ℕ, arith, ap, sym, subst, ◌∙◌, inl, inr, min, length, slice_index_or}
use Rattle.std.proofs.lemmas.Bool.{cases_eq}
use Rattle.std.proofs.lemmas.List.{get_or_default}
use Rattle.gs_run.specs.Nets.{net_of}
use Rattle.gs_piece.specs.Pieces.{IsPiece}
use Rattle.gs_piece.specs.declared.piece.Piece.{Piece}
use Rattle.gs_play.proofs.Places.{piece_at, some_piece}
use Rattle.gs_play.proofs.staleness.safe_until.Goals as goal

pub loop-i-init : goal.loop-i-init
loop-i-init c = λ k d h. absurd (omega (arith, h))

pub loop-i-preserved : goal.loop-i-preserved
loop-i-preserved c = λ k d h net course by a b m t v x is low high hx.
    let least = c.min-oldest.ensures in
    let ps = c.args.pieces.now in
    let less = c.loop-i-test.true in
    elim (cases_eq k c.loop-i.i) [
      | inl same ↦ (let here : IsPiece net course by a b m t c.index-pieces-i.result =
          subst (IsPiece net course by a b m t) (sym (c.index-pieces-i.is ∙ ap (λ (j : ℕ). slice_index_or ps j c.index-pieces-i.result) (sym same) ∙ get_or_default ps k c.index-pieces-i.result d (omega (arith, same, less)))) is in
          let heard = c.oldest.ensures net course by a b m t v x here low high hx in
          omega (arith, heard, least))
      | inr other ↦ (let before = c.loop-i.invariant k d (omega (arith, h, other)) net course by a b m t v x is low high hx in omega (arith, before, least))
    ]

pub returns : goal.returns
returns c = λ course by size m t are v i hv hi.
    let net = net_of c.args.plan.now in
    let ps = c.args.pieces.now in
    let all = are.all in
    let at = piece_at size (length ps) v (omega (arith, all, hv)) in
    let k = at.0 in
    let few = at.1.few in
    let stop = c.loop-i-test.false in
    let d : Piece = some_piece ps (omega (arith, few)) in
    let high = at.1.high in
    let heard = c.loop-i.invariant k d (omega (arith, few, stop)) net course by (k * size) (min net.nodes (k * size + size)) m t v i (are.each k d few) at.1.low (omega (arith, hv, high)) hi in
    let most : c.saturating_add.result ≤ c.loop-i.oldest + net.age = (let sum = c.saturating_add.ensures in let age = ap (λ t. t.age) c.text.ensures in omega (arith, sum, age)) in
    omega (arith, heard, most)
