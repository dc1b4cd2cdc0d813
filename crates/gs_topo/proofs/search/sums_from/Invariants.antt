use Rattle.std.proofs.Common.{◌+◌, ◌*◌, ℕ, Bool, length, sum}
use Rattle.gs_topo.specs.inside.Search.{AreSteps, far_sum}
use Rattle.gs_topo.proofs.Searching.{IsWithin, IsUnderWay, IsSettled}
use Rattle.gs_topo.proofs.search.sums_from.Given as goal

abbrev pub invariant-loop-sums : goal.invariant-loop-sums
invariant-loop-sums l = record {
  within : IsWithin (length l.all) far_sum (record { sums = l.sums.items; pending = l.pending.items });
  settled : IsSettled far_sum (record { sums = l.sums.items; pending = l.pending.items });
  under_way : (adj : ℕ → ℕ → Bool) (k : ℕ → ℕ → ℕ) → AreSteps (length l.all) adj k l.all → IsUnderWay (length l.all) adj k far_sum l.source (record { sums = l.sums.items; pending = l.pending.items });
}

abbrev pub decreases-loop-sums : goal.decreases-loop-sums
decreases-loop-sums l = 2 * sum l.sums.items + length l.pending.items
