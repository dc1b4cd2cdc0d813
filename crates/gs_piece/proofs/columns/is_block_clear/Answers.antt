use Rattle.std.proofs.Common.{◌≡◌, ◌+◌, ◌-◌, ◌<◌, ◌≤◌, ℕ, arith, ap, sym, subst, ◌∙◌, false, length, slice_index, slice_index_or}
use Rattle.std.proofs.lemmas.Bool.{not-true}
use Rattle.gs_piece.proofs.Blocks.{block_item, block_length}
use Rattle.gs_piece.proofs.columns.is_block_clear.Goals as goal

pub returns : goal.returns
returns c = λ all.
    let from = c.args.from in
    let flags = c.args.flags.now in
    let le = c.requires in
    let short = c.if-flags-from.false in
    let inside = c.is_any_set.ensures (not-true c.is_any_set.result all) in
    let long = block_length flags from 16 (omega (arith, short, le)) in (
      omega (arith, short, le),
      λ k low high.
          let item = block_item flags from 16 (k - from) false (omega (arith, short, le)) (omega (arith, low, high)) in
          let same : from + (k - from) ≡ k = omega (arith, low) in
          ap (λ (j : ℕ). slice_index_or flags j false) (sym same) ∙ sym item ∙ inside (k - from) (omega (arith, long, low, high)),
    )
