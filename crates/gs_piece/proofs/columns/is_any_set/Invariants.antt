use Rattle.std.proofs.Common.{◌≡◌, ℕ, ◌<◌, false, slice_index_or}
use Rattle.gs_piece.proofs.columns.is_any_set.Given as goal

abbrev pub invariant-loop-i : goal.invariant-loop-i
invariant-loop-i l = l.any ≡ false → (k : ℕ) → k < l.i → slice_index_or l.flags k false ≡ false
