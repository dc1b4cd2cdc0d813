use Rattle.gs_maximum.proofs.Creeping.{heard_creeps}
use Rattle.gs_maximum.proofs.Raising.{hearing_raises}
use Rattle.gs_maximum.proofs.Telling.{hop_tells, hops_tell, earlier_is_told, lag_per_hop}
use Rattle.gs_maximum.proofs.laws.lag_per_hop.Goals as goal

pub returns-clause-hearing : goal.returns-clause-hearing
returns-clause-hearing c = hearing_raises

pub returns-clause-creep : goal.returns-clause-creep
returns-clause-creep c = heard_creeps

pub returns-clause-hop : goal.returns-clause-hop
returns-clause-hop c = hop_tells

pub returns-clause-hops : goal.returns-clause-hops
returns-clause-hops c = hops_tell

pub returns-clause-earlier : goal.returns-clause-earlier
returns-clause-earlier c = earlier_is_told

pub returns-clause-lag : goal.returns-clause-lag
returns-clause-lag c = lag_per_hop
