-- What every `order` has written that ends with status 0.
use Rattle.std.specs.Prelude.{◌≡◌, ℕ, List, Option, Some, None}
use Rattle.gs_io.specs.Held.{Appends}
use Rattle.gs_plan.specs.declared.plan.Plan.{Plan}
use Rattle.gs_script.specs.Script.{Said}
use Rattle.gs_calendar.specs.Scripts.{breach_of_script}
use Rattle.gs_order.specs.Orders.{AreOrdered, order_of}
use Rattle.gs_tool.specs.Commands.{Order, command_of}
use Rattle.gs_inputs.specs.Inputs.{IsPlan, IsScriptFor}
use Rattle.gs_tool.specs.Orders.{order_text}
use Rattle.gs_inputs.specs.Sources.{FilesSeen}
use Rattle.gs_cli.specs.declared.status.Status.{Status}
use Rattle.gs_cli.specs.declared.status.Status.TheVariants.{Done}

-- What the words PLAN and SCRIPT name is an accepted plan and a script for it that has no breach. The events of the
-- script were written, and each that has finished when another begins has the lesser stamp.
pub record IsOrderWritten (files : FilesSeen) (plan_word script_word : List ℕ) (every : ℕ) (old new : Option (List ℕ)) : Type 0 where
  pub plan : Plan
  pub said : Said
  pub is_plan : IsPlan files plan_word plan
  pub is_script : IsScriptFor files script_word plan said
  pub unbreached : breach_of_script plan said ≡ None
  pub ordered : AreOrdered (order_of plan said every)
  pub written : Appends old new (order_text plan said (order_of plan said every))

-- Every `order` that ends with `Done` has written events whose stamps agree with their order.
abbrev pub OrdersAgree : FilesSeen → List (List ℕ) → Option (List ℕ) → Option (List ℕ) → Status → Type 0
OrdersAgree files words old new status =
    (plan script : List ℕ) (every : ℕ) → command_of words ≡ Some (Order plan script every) → status ≡ Done
    → IsOrderWritten files plan script every old new
