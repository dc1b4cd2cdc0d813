use Rattle.std.proofs.Common.{take}
use Rattle.gs_skew.specs.Ranges.{AreEnds}
use Rattle.gs_world.proofs.clocks.range.Given as goal

abbrev pub invariant-loop-v : goal.invariant-loop-v
invariant-loop-v l = AreEnds (take l.v l.clocks) l.range.least l.range.greatest
