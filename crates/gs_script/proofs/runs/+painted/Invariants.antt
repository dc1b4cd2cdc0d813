use Rattle.std.proofs.Common.{length}
use Rattle.gs_script.proofs.runs.+painted.Given as goal

abbrev pub decreases-painted : goal.decreases-painted
decreases-painted l = length l.places.now
