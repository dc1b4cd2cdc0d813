use Rattle.gs_rows.proofs.Keeping.{scripts_are_steady}
use Rattle.gs_rows.proofs.laws.rows_are_steady.Goals as goal

pub returns : goal.returns
returns c = scripts_are_steady
