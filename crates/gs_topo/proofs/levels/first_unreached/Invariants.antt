use Rattle.std.proofs.Common.{◌≢◌, ◌<◌, ℕ, slice_index}
use Rattle.gs_topo.specs.inside.Search.{far_level}
use Rattle.gs_topo.proofs.levels.first_unreached.Given as goal

abbrev pub invariant-loop-v : goal.invariant-loop-v
invariant-loop-v l = (u : ℕ) → u < l.v → slice_index l.levels u ≢ far_level
