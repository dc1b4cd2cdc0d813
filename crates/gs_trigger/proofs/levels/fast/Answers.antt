use Rattle.gs_trigger.specs.Triggers.{fast_level}
use Rattle.gs_trigger.specs.inside.Sides.{trigger_level}
use Rattle.gs_trigger.proofs.levels.fast.Goals as goal

pub returns-clause-exact : goal.returns-clause-exact
unfolding fast_level trigger_level
returns-clause-exact c = c.least_level.ensures.exact
