use Rattle.gs_plan.proofs.Weights.{least_in_plan, weights_fit}
use Rattle.gs_plan.proofs.laws.weights_are_least_sums.Goals as goal

pub returns-clause-least : goal.returns-clause-least
returns-clause-least c = λ p v w hv hw. (least_in_plan p v w hv hw).0

pub returns-clause-fit : goal.returns-clause-fit
returns-clause-fit c = weights_fit
