use Rattle.std.proofs.Common.{◌≡◌, ℕ, ◌<◌, false, slice_index}
use Rattle.gs_piece.proofs.columns.is_any_awake.Given as goal

abbrev pub invariant-loop-i : goal.invariant-loop-i
invariant-loop-i l = l.any ≡ false → (k : ℕ) → k < l.i → l.t < slice_index l.wake k
