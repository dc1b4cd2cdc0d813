-- What answers `gen`: the text of a generated plan or script, or the play of both.
use Rattle.std.specs.Prelude.{◌≡◌, ℕ, ◌⊎◌, List, None, Ok, Err, ⊤}
use Rattle.gs_planfile.specs.declared.text.PlanText.{PlanText}
use Rattle.gs_plan.specs.Plans.{text_of}
use Rattle.gs_plan.specs.declared.plan.Plan.{Plan}
use Rattle.gs_script.specs.Script.{Said}
use Rattle.gs_calendar.specs.Scripts.{breach_of_script}
use Rattle.gs_gen.specs.Texts.{plan_text, script_text}
use Rattle.gs_cli.specs.Answers.{Answer}
use Rattle.gs_cli.specs.declared.status.Status.TheVariants.{Done}
use Rattle.gs_inputs.specs.Plans.{plan_in}
use Rattle.gs_inputs.specs.Scripts.{script_in}
use Rattle.gs_inputs.specs.Sources.{Text}
use Rattle.gs_tool.specs.declared.command.Part.{Part}
use Rattle.gs_tool.specs.declared.command.Part.TheVariants as part

-- these bytes mean this accepted plan, and those this script for it
abbrev pub AreAccepted : List ℕ → List ℕ → PlanText → Said → Type 0
AreAccepted plan_bytes script_bytes text said =
    (plan_in (Text plan_bytes) ≡ Ok text) × (script_in text (Text script_bytes) ≡ Ok said)

-- the plan is refused with this answer or, where it is accepted, the script
abbrev pub IsRefusal : List ℕ → List ℕ → Answer → Type 0
IsRefusal plan_bytes script_bytes answer =
    (plan_in (Text plan_bytes) ≡ Err answer)
    ⊎ ((plan : Plan) × (plan_in (Text plan_bytes) ≡ Ok (text_of plan))
    × (script_in (text_of plan) (Text script_bytes) ≡ Err answer))

-- This answers a command on the bytes of a plan and a script: `Is` says what answers it where both are accepted.
abbrev pub IsAnswerOf : List ℕ → List ℕ → (Plan → Said → Answer → Type 0) → Answer → Type 0
IsAnswerOf plan_bytes script_bytes Is answer =
    ((plan : Plan) × (said : Said) × AreAccepted plan_bytes script_bytes (text_of plan) said × Is plan said answer)
    ⊎ IsRefusal plan_bytes script_bytes answer

-- This answers `gen NUMBER SIZE PART`: `Is` says what answers a play.
abbrev pub IsGenerated : ℕ → ℕ → Part → (Plan → Said → Answer → Type 0) → Answer → Type 0
IsGenerated number size part.Plan Is answer = answer ≡ record { status = Done; text = plan_text size }
IsGenerated number size part.Script Is answer = answer ≡ record { status = Done; text = script_text number size }
IsGenerated number size part.Run Is answer = IsAnswerOf (plan_text size) (script_text number size) Is answer

-- Nothing stands in the way of a part: of a play, that both texts are accepted and the script has no breach.
abbrev pub IsUnhindered : ℕ → ℕ → Part → Type 0
IsUnhindered number size part.Plan = ⊤
IsUnhindered number size part.Script = ⊤
IsUnhindered number size part.Run =
    (text : PlanText) × (said : Said) × AreAccepted (plan_text size) (script_text number size) text said
    × ((plan : Plan) → text_of plan ≡ text → breach_of_script plan said ≡ None)
