use Rattle.std.proofs.Common.{◌≡◌, ℕ, ◌<◌, ◌≤◌, length, slice_index_or, Option}
use Rattle.gs_settle.specs.inside.Running.{marked}
use Rattle.gs_settle.proofs.settling.mark.Given as goal

abbrev pub invariant-loop-s : goal.invariant-loop-s
invariant-loop-s l = record {
  count : length l.last ≡ length l.fn.last;
  past : (k : ℕ) (d : Option ℕ) → k < l.s → slice_index_or l.last k d ≡ marked l.plan l.clocks l.t k (slice_index_or l.fn.last k d);
  rest : (k : ℕ) (d : Option ℕ) → l.s ≤ k → slice_index_or l.last k d ≡ slice_index_or l.fn.last k d;
}
