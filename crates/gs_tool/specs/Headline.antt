-- The headline: what every play keeps that ends with status 0.
use Rattle.std.specs.Prelude.{◌≡◌, ℕ, List, Option, Some}
use Rattle.gs_io.specs.Held.{Appends}
use Rattle.gs_plan.specs.Plans.{text_of, graph_of}
use Rattle.gs_plan.specs.declared.plan.Plan.{Plan}
use Rattle.gs_level.specs.ReportText.{report_text}
use Rattle.gs_script.specs.Script.{Said}
use Rattle.gs_world.specs.RunReports.{IsWithinBounds}
use Rattle.gs_play.specs.Headline.{PlayKeepsBounds}
use Rattle.gs_play.specs.Scripts.{report_of_script}
use Rattle.gs_tool.specs.Commands.{Play, command_of}
use Rattle.gs_inputs.specs.Inputs.{IsPlan, IsScriptFor}
use Rattle.gs_inputs.specs.Sources.{FilesSeen}
use Rattle.gs_cli.specs.declared.status.Status.{Status}
use Rattle.gs_cli.specs.declared.status.Status.TheVariants.{Done}

-- What the words PLAN and SCRIPT name is an accepted plan and a script for it. Playing the script keeps all bounds of
-- the plan, and its report was written, in which no number is above its bound.
pub record IsPlayWithin (files : FilesSeen) (plan_word script_word : List ℕ) (old new : Option (List ℕ)) : Type 0 where
  pub plan : Plan
  pub said : Said
  pub is_plan : IsPlan files plan_word plan
  pub is_script : IsScriptFor files script_word plan said
  pub kept : PlayKeepsBounds plan said
  pub within : IsWithinBounds (text_of plan) (graph_of plan) (report_of_script plan said)
  pub written : Appends old new (report_text (text_of plan) (graph_of plan) (report_of_script plan said))

-- Every play that ends with `Done` keeps the bounds of its plan.
abbrev pub PlaysKeepBounds : FilesSeen → List (List ℕ) → Option (List ℕ) → Option (List ℕ) → Status → Type 0
PlaysKeepBounds files words old new status =
    (plan script : List ℕ) (workers : ℕ) → command_of words ≡ Some (Play plan script workers) → status ≡ Done
    → IsPlayWithin files plan script old new
