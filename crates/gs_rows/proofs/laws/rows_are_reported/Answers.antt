use Rattle.gs_rows.proofs.Reports.{rows_are_reported}
use Rattle.gs_rows.proofs.laws.rows_are_reported.Goals as goal

pub returns : goal.returns
returns c = rows_are_reported
