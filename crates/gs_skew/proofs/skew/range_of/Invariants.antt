use Rattle.std.proofs.Common.{◌∷◌, take}
use Rattle.gs_skew.specs.Ranges.{AreEnds}
use Rattle.gs_skew.proofs.skew.range_of.Given as goal

abbrev pub invariant-loop-clock : goal.invariant-loop-clock
invariant-loop-clock l = AreEnds (l.first ∷ take l.clock-index l.rest) l.range.least l.range.greatest
