use Rattle.std.proofs.Common.{◌≡◌, ℕ, ◌<◌, ◌≤◌, length, slice_index_or}
use Rattle.gs_order.specs.inside.UnderWay.{after_clocks}
use Rattle.gs_order.specs.Waits.{wait_of}
use Rattle.gs_order.specs.declared.timed.Timed.{Timed}
use Rattle.gs_order.proofs.ordering.finish_open.Given as goal

abbrev pub invariant-loop-i : goal.invariant-loop-i
invariant-loop-i l = record {
  count : length l.events ≡ length l.fn.events;
  past : (k : ℕ) (d : Timed) → l.done ≤ k → k < l.i
      → slice_index_or l.events k d ≡ after_clocks (wait_of l.plan) l.t l.clocks (slice_index_or l.fn.events k d);
  early : (k : ℕ) (d : Timed) → k < l.done → slice_index_or l.events k d ≡ slice_index_or l.fn.events k d;
  rest : (k : ℕ) (d : Timed) → l.i ≤ k → slice_index_or l.events k d ≡ slice_index_or l.fn.events k d;
}
