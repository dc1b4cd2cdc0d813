use Rattle.std.proofs.Common.{◌≡◌, ℕ, ◌+◌, ◌<◌, ◌≤◌, length, slice_index, slice_index_or}
use Rattle.gs_world.proofs.clocks.add.Given as goal

abbrev pub invariant-loop-i : goal.invariant-loop-i
invariant-loop-i l = record {
  count : length l.numbers ≡ length l.fn.numbers;
  done : (k d : ℕ) → k < l.i → slice_index_or l.numbers k d ≡ slice_index_or l.fn.numbers k d + slice_index l.incs k;
  rest : (k d : ℕ) → l.i ≤ k → k < length l.numbers → slice_index_or l.numbers k d ≡ slice_index_or l.fn.numbers k d;
}
