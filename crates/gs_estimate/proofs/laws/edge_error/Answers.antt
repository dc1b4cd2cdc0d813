use Rattle.gs_estimate.proofs.Closeness.{beacon_is_close, start_is_close, offset_stays_close}
use Rattle.gs_estimate.proofs.laws.edge_error.Goals as goal

pub returns-clause-beacon : goal.returns-clause-beacon
returns-clause-beacon c = beacon_is_close

pub returns-clause-start : goal.returns-clause-start
returns-clause-start c = start_is_close

pub returns-clause-offset : goal.returns-clause-offset
returns-clause-offset c = offset_stays_close
