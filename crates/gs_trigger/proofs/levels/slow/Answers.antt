use Rattle.gs_trigger.specs.Triggers.{slow_level}
use Rattle.gs_trigger.specs.inside.Sides.{trigger_level}
use Rattle.gs_trigger.proofs.levels.slow.Goals as goal

pub returns-clause-exact : goal.returns-clause-exact
unfolding slow_level trigger_level
returns-clause-exact c = c.least_level.ensures.exact
