use Rattle.std.proofs.Common.{◌≡◌, ℕ, ◌<◌, ◌≤◌, length, slice_index}
use Rattle.gs_tdma.specs.inside.Kept.{with_clock}
use Rattle.gs_tdma.proofs.sending.with_clocks.Given as goal

abbrev pub invariant-loop-v : goal.invariant-loop-v
invariant-loop-v l = record {
  count : length l.sent ≡ length l.fn.sent;
  past : (k : ℕ) → k < l.v → slice_index l.sent k ≡ with_clock l.slots k (slice_index l.clocks k) (slice_index l.fn.sent k);
  rest : (k : ℕ) → l.v ≤ k → slice_index l.sent k ≡ slice_index l.fn.sent k;
}
