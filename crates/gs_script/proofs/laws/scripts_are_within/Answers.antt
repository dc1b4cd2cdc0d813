use Rattle.gs_script.proofs.ReadWithin.{records_read, steady_read}
use Rattle.gs_script.proofs.laws.scripts_are_within.Goals as goal

pub returns-clause-read : goal.returns-clause-read
returns-clause-read c = λ p bytes. records_read p _

pub returns-clause-steady : goal.returns-clause-steady
returns-clause-steady c = steady_read
