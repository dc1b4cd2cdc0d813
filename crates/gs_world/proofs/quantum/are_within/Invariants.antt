use Rattle.std.proofs.Common.{ℕ, ◌<◌, ◌≤◌, slice_index}
use Rattle.gs_world.proofs.quantum.are_within.Given as goal

abbrev pub invariant-loop-h : goal.invariant-loop-h
invariant-loop-h l = (k : ℕ) → k < l.h-index → (l.least ≤ slice_index l.incs k) × (slice_index l.incs k ≤ l.greatest)
