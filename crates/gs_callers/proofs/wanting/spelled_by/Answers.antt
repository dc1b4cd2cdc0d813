use Rattle.gs_callers.proofs.Spelled.{spelled, unspelled}
use Rattle.gs_callers.proofs.wanting.spelled_by.Goals as goal

pub returns-in-Ok-clause-value : goal.returns-in-Ok-clause-value
returns-in-Ok-clause-value c = spelled _ _ c.in-Ok.ensures.ok

pub returns-in-Err-clause-value : goal.returns-in-Err-clause-value
returns-in-Err-clause-value c = unspelled _ _ c.in-Err.ensures.err
