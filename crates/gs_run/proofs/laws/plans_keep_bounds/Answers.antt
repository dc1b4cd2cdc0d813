use Rattle.gs_run.proofs.PlanBounds.{plans_keep_bounds}
use Rattle.gs_run.proofs.laws.plans_keep_bounds.Goals as goal

pub returns : goal.returns
returns c = λ p hw l0 events allowed. plans_keep_bounds p hw l0 events allowed
