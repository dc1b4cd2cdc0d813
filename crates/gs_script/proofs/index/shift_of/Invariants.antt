use Rattle.std.proofs.Common.{ℕ, ◌-◌}
use Rattle.gs_script.proofs.index.shift_of.Given as goal

abbrev pub decreases-loop-shift : goal.decreases-loop-shift
decreases-loop-shift l = 31 - l.shift
