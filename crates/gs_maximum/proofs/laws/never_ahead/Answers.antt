use Rattle.gs_maximum.proofs.Creeping.{creep_stays_behind}
use Rattle.gs_maximum.proofs.Raising.{jump_stays_behind, hearing_stays_behind, estimate_stays_behind}
use Rattle.gs_maximum.proofs.laws.never_ahead.Goals as goal

pub returns-clause-creep : goal.returns-clause-creep
returns-clause-creep c = creep_stays_behind

pub returns-clause-jump : goal.returns-clause-jump
returns-clause-jump c = jump_stays_behind

pub returns-clause-hearing : goal.returns-clause-hearing
returns-clause-hearing c = hearing_stays_behind

pub returns-clause-estimate : goal.returns-clause-estimate
returns-clause-estimate c = estimate_stays_behind
