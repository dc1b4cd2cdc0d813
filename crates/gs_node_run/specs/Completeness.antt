-- What a run of a node does where nothing fails.
use Rattle.std.specs.Prelude.{◌≡◌, ℕ, ◌<◌, All, List, length, Option, Some, None}
use Rattle.gs_planfile.specs.declared.text.PlanText.{PlanText}
use Rattle.gs_plan.specs.Plans.{graph_of, text_of}
use Rattle.gs_plan.specs.declared.plan.Plan.{Plan}
use Rattle.gs_clock.specs.declared.clocks.Clock as clock
use Rattle.gs_board.specs.Torn.{IsWhole}
use Rattle.gs_inputs.specs.AtHand.{HasPlan}
use Rattle.gs_inputs.specs.Sources.{FilesSeen}
use Rattle.gs_node_run.specs.Served.{IfClock, IfServed}
use Rattle.gs_node_run.specs.Statuses.{Faults, HasRisen, IsLate}
use Rattle.gs_node_run.specs.Words.{Order, order_of}
use Rattle.gs_node_run.specs.declared.ends.Left.{Left}

-- Nothing keeps a run of a node from its end: the words name a plan that is at hand, and a node of it; no clock has failed,
-- and no count of the ports, the crew or the trace rose; a clock that is left, which told these readings before, gave one
-- below the end of all clocks; and a board that is left has no halt, a journal with room, and seats that are all whole.
pub record IsUnhindered {C : Type 0} {c : clock.Ghosts C} (files : FilesSeen) (words : List (List ℕ)) (told : Option (List ℕ)) (left : Left C c) (n : Faults) : Type 0 where
  pub order : Order
  pub text : PlanText
  pub spelled : order_of words ≡ Some order
  pub at_hand : HasPlan files order.plan text
  pub node : (plan : Plan) → text_of plan ≡ text → order.node < (graph_of plan).nodes
  pub clock : n.clock ≡ 0
  pub view : n.view ≡ 0
  pub ports : ¬ (HasRisen n.ports)
  pub crew : ¬ (HasRisen n.crew)
  pub trace : ¬ (HasRisen n.trace)
  pub early : IfClock left (λ clock. ¬ (IsLate told (c.left clock)))
  pub quiet : IfServed left (λ t seats. (t.halt ≡ None) × (length t.journal < 4193281) × All (IsWhole t) seats)
