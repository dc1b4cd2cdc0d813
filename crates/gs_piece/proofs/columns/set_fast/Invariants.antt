use Rattle.std.proofs.Common.{◌≡◌, ◌+◌, ℕ, suc, ◌<◌, ◌≤◌, ◌-◌, length, slice_index, slice_index_or, true, false, take}
use Rattle.std.specs.List.{count_by}
use Rattle.gs_plan.specs.declared.plan.Plan.{Plan}
use Rattle.gs_script.specs.Script.{Said}
use Rattle.gs_run.specs.Nets.{net_of}
use Rattle.gs_calendar.specs.Course.{course_of}
use Rattle.gs_piece.specs.Columns.{AreSeats, clock_at}
use Rattle.gs_piece.proofs.columns.set_fast.Given as goal

abbrev pub invariant-loop-i : goal.invariant-loop-i
invariant-loop-i l = record {
  count : length l.clocks ≡ length l.fn.clocks;
  inside : l.from ≤ length l.fast;
  slow : (k : ℕ) → k < length l.fast → slice_index_or l.fast k false ≡ false → slice_index l.clocks k ≡ slice_index l.fn.clocks k;
  fast : (p : Plan) (s : Said) (by : ℕ → ℕ → ℕ) (a m k : ℕ) → AreSeats p s by a m l.t l.seats → k < l.from → slice_index_or l.fast k false ≡ true → slice_index l.clocks k ≡ clock_at (net_of p) (course_of s) (suc l.t) (a + k);
  number : l.number ≡ count_by (λ b. b) (take l.from l.fast);
  few : l.number ≤ l.from;
}

abbrev pub decreases-loop-i : goal.decreases-loop-i
decreases-loop-i l = length l.fast - l.from
