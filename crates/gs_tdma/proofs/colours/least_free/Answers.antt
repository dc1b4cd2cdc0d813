use Rattle.std.proofs.Common.{below_more, rules}
use Rattle.gs_tdma.proofs.colours.least_free.Goals as goal

pub loop-colour-preserved : goal.loop-colour-preserved
loop-colour-preserved c = below_more _ _ c.loop-colour.invariant (search rules)
