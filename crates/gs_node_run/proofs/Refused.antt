-- What refuses a node.
use Rattle.std.proofs.Common.{◌≡◌, ℕ, ◌≤◌, List, Option, Some, inr, sym, subst}
use Rattle.gs_plan.specs.Plans.{graph_of}
use Rattle.gs_plan.specs.declared.plan.Plan.{Plan}
use Rattle.gs_cli.specs.Stops.{StopsWith}
use Rattle.gs_cli.specs.declared.stop.Stop.{Stop}
use Rattle.gs_inputs.specs.Inputs.{IsPlan}
use Rattle.gs_inputs.specs.Plans.{node_refused}
use Rattle.gs_inputs.specs.Sources.{FilesSeen}
use Rattle.gs_inputs.proofs.Reading.{stops_as}
use Rattle.gs_node_run.specs.Nodes.{IsRefused, IsRefusedAs}
use Rattle.gs_node_run.specs.Words.{Order, order_of}

-- a node that the plan does not have
pub no_node : (files : FilesSeen) (words : List (List ℕ)) (order : Order) (plan : Plan) (stop : Stop) → order_of words ≡ Some order
    → IsPlan files order.plan plan → (graph_of plan).nodes ≤ order.node → StopsWith (λ answer. answer ≡ node_refused order.node) stop
    → StopsWith (IsRefused files words) stop
no_node files words order plan stop spelled named past stops =
    stops_as {Is = IsRefused files words} {Was = λ answer. answer ≡ node_refused order.node} stop
    (λ answer is. subst (λ (o : Option Order). IsRefusedAs files o answer) (sym spelled) (inr (plan, named, past, is))) stops
