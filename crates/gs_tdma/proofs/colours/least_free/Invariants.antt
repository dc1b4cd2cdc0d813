use Rattle.std.proofs.Common.{ℕ, ◌<◌}
use Rattle.gs_tdma.specs.inside.Kept.{IsTaken}
use Rattle.gs_tdma.proofs.colours.least_free.Given as goal

abbrev pub invariant-loop-colour : goal.invariant-loop-colour
invariant-loop-colour l = (c : ℕ) → c < l.colour → IsTaken l.topo l.reach l.colours l.v c
