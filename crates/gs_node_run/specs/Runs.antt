-- What is true of every run of a node.
use Rattle.std.specs.Prelude.{◌≡◌, ℕ, ◌⊎◌, List, []}
use Rattle.gs_net.specs.declared.lending.Ask.{Ask}
use Rattle.gs_plan.specs.declared.plan.Plan.{Plan}
use Rattle.gs_inputs.specs.Sources.{FilesSeen}
use Rattle.gs_node_run.specs.Nodes.{Names, asks_for_node}
use Rattle.gs_node_run.specs.Words.{Order}

-- all that the named node asks its ports for, or nothing where the words are refused
abbrev pub IsAsked : FilesSeen → List (List ℕ) → List Ask → Type 0
IsAsked files words all = (all ≡ []) ⊎ ((order : Order) × (plan : Plan) × Names files words order plan × (all ≡ asks_for_node plan order.node))
