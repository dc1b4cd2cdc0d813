use Rattle.std.proofs.Common.{◌≡◌, ◌+◌, ℕ, ◌<◌, ◌≤◌, length, slice_index}
use Rattle.gs_piece.proofs.columns.add_steps.Given as goal

abbrev pub invariant-loop-i : goal.invariant-loop-i
invariant-loop-i l = record {
  count : length l.clocks ≡ length l.fn.clocks;
  done : (k : ℕ) → k < l.i → slice_index l.clocks k ≡ slice_index l.fn.clocks k + slice_index l.steps k;
  rest : (k : ℕ) → l.i ≤ k → k < length l.clocks → slice_index l.clocks k ≡ slice_index l.fn.clocks k;
}
