use Rattle.gs_steer.proofs.Deciding.{fast_by_trigger, slow_by_trigger, fast_far_behind, slow_near_maximum}
use Rattle.gs_steer.proofs.laws.mode_laws.Goals as goal

pub returns-clause-fast : goal.returns-clause-fast
returns-clause-fast c = fast_by_trigger

pub returns-clause-slow : goal.returns-clause-slow
returns-clause-slow c = slow_by_trigger

pub returns-clause-far : goal.returns-clause-far
returns-clause-far c = fast_far_behind

pub returns-clause-near : goal.returns-clause-near
returns-clause-near c = slow_near_maximum
