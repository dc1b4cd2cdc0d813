use Rattle.gs_units.proofs.Growing.{grows_by, creep-sum}
use Rattle.gs_units.proofs.laws.growth.Goals as goal

pub returns-clause-quantum : goal.returns-clause-quantum
returns-clause-quantum c = grows_by

pub returns-clause-sum : goal.returns-clause-sum
returns-clause-sum c = creep-sum
