use Rattle.gs_planfile.proofs.Faults.{faults_at_keys}
use Rattle.gs_planfile.proofs.laws.faults_are_at_keys.Goals as goal

pub returns : goal.returns
returns c = faults_at_keys
