use Rattle.std.proofs.Common.{◌+◌, ◌-◌, length}
use Rattle.gs_script.proofs.Painting.{IsMerged}
use Rattle.gs_script.proofs.runs.merged.Given as goal

abbrev pub invariant-loop-i : goal.invariant-loop-i
invariant-loop-i l = IsMerged l.a l.b l.i l.k l.items.items

abbrev pub decreases-loop-i : goal.decreases-loop-i
decreases-loop-i l = (length l.a - l.i) + (length l.b - l.k)
