use Rattle.std.proofs.Common.{◌≡◌, ◌<◌, ◌≤◌, All, length, slice_index, take}
use Rattle.gs_topo.proofs.search.least_place.Given as goal

abbrev pub invariant-loop-place : goal.invariant-loop-place
invariant-loop-place l = record {
  inside : l.best < length l.pending;
  sum : l.least ≡ slice_index l.sums (slice_index l.pending l.best);
  least : All (λ x. l.least ≤ slice_index l.sums x) (take l.place l.pending);
}
