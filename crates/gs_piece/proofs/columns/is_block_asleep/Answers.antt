use Rattle.std.proofs.Common.{◌≡◌, ◌+◌, ◌-◌, ◌<◌, ◌≤◌, ℕ, arith, ap, sym, subst, ◌∙◌, false, length, slice_index, slice_index_or}
use Rattle.std.proofs.lemmas.Bool.{not-true}
use Rattle.gs_piece.proofs.Blocks.{block_item, block_length}
use Rattle.gs_piece.proofs.columns.is_block_asleep.Goals as goal

pub returns : goal.returns
returns c = λ all.
    let from = c.args.from in
    let wake = c.args.wake.now in
    let le = c.requires in
    let short = c.if-wake-from-lt-BLOCK.false in
    let inside = c.is_any_awake.ensures (not-true c.is_any_awake.result all) in
    let long = block_length wake from 8 (omega (arith, short, le)) in (
      omega (arith, short, le),
      λ k low high.
          let item = block_item wake from 8 (k - from) 0 (omega (arith, short, le)) (omega (arith, low, high)) in
          let same : from + (k - from) ≡ k = omega (arith, low) in
          let most = inside (k - from) (omega (arith, long, low, high)) in
          subst (λ (q : ℕ). c.args.t < q) (item ∙ ap (slice_index wake) same) most,
    )
