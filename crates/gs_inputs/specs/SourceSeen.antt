-- What the code read, as data, and what refuses it.
use Rattle.std.specs.Prelude.{◌≡◌, ◌⊎◌, Ok, Err}
use Rattle.gs_plan.specs.Plans.{text_of}
use Rattle.gs_plan.specs.declared.plan.Plan.{Plan}
use Rattle.gs_cli.specs.Answers.{Answer}
use Rattle.gs_inputs.specs.Plans.{plan_in}
use Rattle.gs_inputs.specs.Scripts.{script_in}
use Rattle.gs_inputs.specs.Sources as told
use Rattle.gs_inputs.specs.declared.source.Source.{Source}
use Rattle.gs_inputs.specs.declared.source.Source.TheVariants.{Count, Text}

-- an input that was read, as bytes
abbrev pub source_in : Source → told.Source
source_in (Count count) = told.Count count.now
source_in (Text bytes) = told.Text bytes.items

-- the plan is refused or, where it is accepted, the script
abbrev pub AreRefused : told.Source → told.Source → Answer → Type 0
AreRefused plan_source script_source answer =
    (plan_in plan_source ≡ Err answer)
    ⊎ ((plan : Plan) × (plan_in plan_source ≡ Ok (text_of plan)) × (script_in (text_of plan) script_source ≡ Err answer))
