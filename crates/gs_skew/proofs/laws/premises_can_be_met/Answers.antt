use Rattle.gs_skew.proofs.Worked.{worked}
use Rattle.gs_skew.proofs.laws.premises_can_be_met.Goals as goal

pub returns : goal.returns
returns c = worked
