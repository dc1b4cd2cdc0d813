use Rattle.gs_run.proofs.Budgets.{budget_kept}
use Rattle.gs_run.proofs.laws.runs_keep_the_budget.Goals as goal

pub returns : goal.returns
returns c = λ net hw l0 es numbers allowed. budget_kept net hw l0 es numbers allowed
