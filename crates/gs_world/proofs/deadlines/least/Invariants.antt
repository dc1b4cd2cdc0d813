use Rattle.std.proofs.Common.{ℕ, ◌<◌, ◌≤◌, slice_index_or}
use Rattle.gs_world.proofs.deadlines.least.Given as goal

abbrev pub invariant-loop-x : goal.invariant-loop-x
invariant-loop-x l = (k : ℕ) (d : ℕ) → k < l.x-index → l.least ≤ slice_index_or l.items k d
