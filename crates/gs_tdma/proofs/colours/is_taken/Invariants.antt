use Rattle.std.proofs.Common.{ℕ, ◌<◌, ◌≤◌, ◌≢◌, slice_index}
use Rattle.gs_topo.specs.Walks.{distance_of}
use Rattle.gs_tdma.proofs.colours.is_taken.Given as goal

abbrev pub invariant-loop-u : goal.invariant-loop-u
invariant-loop-u l = (u : ℕ) → u < l.u → distance_of l.topo u l.v ≤ l.reach → slice_index l.colours u ≢ l.colour
