use Rattle.gs_world.proofs.Reporting.{reports_keep_bounds}
use Rattle.gs_world.proofs.laws.reports_keep_bounds.Goals as goal

pub returns : goal.returns
returns c = λ p hw l0 es allowed. reports_keep_bounds p hw l0 es allowed
