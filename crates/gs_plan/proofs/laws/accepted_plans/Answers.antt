use Rattle.gs_plan.specs.Faults.{plan_fault}
use Rattle.gs_plan.proofs.Accepting.{accepted_of}
use Rattle.gs_plan.proofs.Telling.{is_none_of, plan_accepted, plan_is_graph}
use Rattle.gs_plan.proofs.laws.accepted_plans.Goals as goal

pub returns-clause-texts : goal.returns-clause-texts
returns-clause-texts c = accepted_of

pub returns-clause-plans : goal.returns-clause-plans
returns-clause-plans c = λ p. record {
  no_fault = is_none_of (plan_fault p.text) p.accepted;
  rate = p.rates;
  graph = p.graph;
  topology = plan_is_graph p.text p.topo p.accepted p.graph;
  accepted = plan_accepted p.text p.topo p.accepted p.graph;
}
