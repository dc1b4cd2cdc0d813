use Rattle.gs_run.proofs.PlanNumbers.{bounds_are_the_plans, plan_has_numbers, told_is}
use Rattle.gs_run.proofs.plans.plans_have_numbers.Goals as goal

pub returns-clause-numbers : goal.returns-clause-numbers
returns-clause-numbers c = plan_has_numbers

pub returns-clause-nodes : goal.returns-clause-nodes
returns-clause-nodes c = told_is

pub returns-clause-bounds : goal.returns-clause-bounds
returns-clause-bounds c = bounds_are_the_plans
