-- The node that the words of the command `node` name, and what refuses them, in order.
use Rattle.std.specs.Prelude.{◌≡◌, ℕ, ◌<◌, ◌≤◌, ◌⊎◌, Bool, true, List, Option, Some, None}
use Rattle.gs_units.specs.declared.params.NodeParams.{NodeParams}
use Rattle.gs_net.specs.declared.lending.Ask.{Ask}
use Rattle.gs_plan.specs.Plans.{graph_of, params_for, text_of}
use Rattle.gs_plan.specs.declared.plan.Plan.{Plan}
use Rattle.gs_cli.specs.Answers.{Answer, usage}
use Rattle.gs_inputs.specs.Inputs.{IsNoPlan, IsPlan}
use Rattle.gs_inputs.specs.Plans.{node_refused}
use Rattle.gs_inputs.specs.Sources.{FilesSeen, is_built_in}
use Rattle.gs_inputs.specs.declared.source.Kind.TheVariants as kind
use Rattle.gs_node_run.specs.Addresses.{asks_of}
use Rattle.gs_node_run.specs.Words.{Order, order_of}

-- these words name this plan, and a node of it
pub record Names (files : FilesSeen) (words : List (List ℕ)) (order : Order) (plan : Plan) : Type 0 where
  pub spelled : order_of words ≡ Some order
  pub plan_is : IsPlan files order.plan plan
  pub node : order.node < (graph_of plan).nodes

-- an order that names no file, since there is none or its plan is built in
abbrev pub names_no_file : Option Order → Bool
names_no_file None = true
names_no_file (Some order) = is_built_in kind.Plan order.plan

-- what its node is told before it runs
abbrev pub params_of : Plan → ℕ → NodeParams
params_of plan v = params_for plan v

-- and what it asks its ports for
abbrev pub asks_for_node : Plan → ℕ → List Ask
asks_for_node plan v = asks_of (text_of plan) (graph_of plan) v

-- what refuses an order: its plan, or then its node
abbrev pub IsOrderRefused : FilesSeen → Order → Answer → Type 0
IsOrderRefused files order answer =
    IsNoPlan files order.plan answer
    ⊎ ((plan : Plan) × IsPlan files order.plan plan × ((graph_of plan).nodes ≤ order.node) × (answer ≡ node_refused order.node))

abbrev pub IsRefusedAs : FilesSeen → Option Order → Answer → Type 0
IsRefusedAs files None answer = answer ≡ usage
IsRefusedAs files (Some order) answer = IsOrderRefused files order answer

-- what refuses words: they are no such command, or their order is refused
abbrev pub IsRefused : FilesSeen → List (List ℕ) → Answer → Type 0
IsRefused files words answer = IsRefusedAs files (order_of words) answer
