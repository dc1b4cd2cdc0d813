use Rattle.gs_run.proofs.Theorems.{always_bounded}
use Rattle.gs_run.proofs.laws.runs_are_bounded.Goals as goal

pub returns : goal.returns
returns c = λ net hw l0 es numbers allowed i. always_bounded net hw l0 es numbers allowed i
