-- What a run does where nothing fails.
use Rattle.std.specs.Prelude.{◌≡◌, ℕ, ◌⊎◌, List, Option, Some, None}
use Rattle.gs_planfile.specs.declared.text.PlanText.{PlanText}
use Rattle.gs_plan.specs.Plans.{text_of}
use Rattle.gs_plan.specs.declared.plan.Plan.{Plan}
use Rattle.gs_io.specs.Causes.{Rose}
use Rattle.gs_script.specs.Script.{Said}
use Rattle.gs_calendar.specs.Losses.{LosesFew}
use Rattle.gs_calendar.specs.Scripts.{breach_of_script}
use Rattle.gs_tdma.specs.Faults.{slot_fault}
use Rattle.gs_tool.specs.Commands as command
use Rattle.gs_tool.specs.Commands.{Command, Gen, Migrate, Order, Play, Settle, Slots, Trace, command_of}
use Rattle.gs_tool.specs.Generated.{IsUnhindered}
use Rattle.gs_inputs.specs.AtHand.{HasPlan, HasScript, IsCompleted}
use Rattle.gs_inputs.specs.Sources.{FilesSeen}
use Rattle.gs_tool.specs.declared.command.Part.{Part}
use Rattle.gs_cli.specs.declared.status.Status.{Status}

-- The command plays a script to its end, and has these words PLAN and SCRIPT.
abbrev pub Plays : Option Command → List ℕ → List ℕ → Type 0
Plays (Some (Play plan script workers)) plan_word script_word = (plan ≡ plan_word) × (script ≡ script_word)
Plays (Some (Trace plan script)) plan_word script_word = (plan ≡ plan_word) × (script ≡ script_word)
Plays (Some (Order plan script every)) plan_word script_word = (plan ≡ plan_word) × (script ≡ script_word)
Plays (Some (Settle plan script gamma)) plan_word script_word = (plan ≡ plan_word) × (script ≡ script_word)
Plays _ plan_word script_word = ⊥

-- Where no count of the sink rose:
pub record Completes (files : FilesSeen) (words : List (List ℕ)) (before after : ℕ) (status : Status) : Type 0 where
  -- `plan` and `migrate` complete with an accepted plan,
  pub plans : (word : List ℕ) (text : PlanText)
      → (command_of words ≡ Some (command.Plan word)) ⊎ (command_of words ≡ Some (Migrate word))
      → HasPlan files word text → ¬ (Rose before after) → IsCompleted status
  -- a command that plays a script to its end with an accepted plan and a script for it that has no breach,
  pub plays : (plan script : List ℕ) (text : PlanText) (said : Said) → Plays (command_of words) plan script
      → HasPlan files plan text → HasScript files script text said
      → ((p : Plan) → text_of p ≡ text → breach_of_script p said ≡ None)
      → ¬ (Rose before after) → IsCompleted status
  -- `slots` where moreover the reach and the slot have no fault,
  pub slots : (plan script : List ℕ) (reach slot : ℕ) (text : PlanText) (said : Said)
      → command_of words ≡ Some (Slots plan script reach slot)
      → HasPlan files plan text → HasScript files script text said
      → ((p : Plan) → text_of p ≡ text → breach_of_script p said ≡ None)
      → ((p : Plan) → text_of p ≡ text → slot_fault p reach slot ≡ None)
      → ¬ (Rose before after) → IsCompleted status
  -- and so the former with a script that loses no more beacons in a row than the plan allows for.
  pub few_losses : (plan script : List ℕ) (text : PlanText) (said : Said) → Plays (command_of words) plan script
      → HasPlan files plan text → HasScript files script text said
      → ((p : Plan) → text_of p ≡ text → LosesFew p said)
      → ¬ (Rose before after) → IsCompleted status
  -- So does `gen`, with PART `run` where its two texts are accepted and the script has no breach.
  pub generates : (number size : ℕ) (part : Part) → command_of words ≡ Some (Gen number size part)
      → IsUnhindered number size part → ¬ (Rose before after) → IsCompleted status
