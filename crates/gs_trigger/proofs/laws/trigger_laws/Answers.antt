use Rattle.gs_trigger.proofs.Apart.{never_both, not_fast_in_front, not_slow_at_the_back}
use Rattle.gs_trigger.proofs.laws.trigger_laws.Goals as goal

pub returns-clause-apart : goal.returns-clause-apart
returns-clause-apart c = never_both

pub returns-clause-front : goal.returns-clause-front
returns-clause-front c = not_fast_in_front

pub returns-clause-back : goal.returns-clause-back
returns-clause-back c = not_slow_at_the_back
