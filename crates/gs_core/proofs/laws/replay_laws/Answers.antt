use Rattle.gs_core.proofs.Replaying.{replay_goes_on, stopped_stays}
use Rattle.gs_core.proofs.laws.replay_laws.Goals as goal

pub returns-clause-goes_on : goal.returns-clause-goes_on
returns-clause-goes_on c = replay_goes_on

pub returns-clause-stays : goal.returns-clause-stays
returns-clause-stays c = stopped_stays
