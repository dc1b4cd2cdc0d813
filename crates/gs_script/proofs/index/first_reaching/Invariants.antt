use Rattle.std.proofs.Common.{ℕ, ◌-◌, length}
use Rattle.gs_script.proofs.index.first_reaching.Given as goal

abbrev pub decreases-loop-place : goal.decreases-loop-place
decreases-loop-place l = length l.items - l.place
