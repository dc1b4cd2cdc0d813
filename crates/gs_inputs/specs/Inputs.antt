-- The inputs of a command, and what refuses them, in order: what every command does before its own work.
use Rattle.std.specs.Prelude.{◌≡◌, ℕ, ◌⊎◌, List, Ok, Err}
use Rattle.gs_plan.specs.Plans.{text_of}
use Rattle.gs_plan.specs.declared.plan.Plan.{Plan}
use Rattle.gs_script.specs.Script.{Said}
use Rattle.gs_cli.specs.Answers.{Answer}
use Rattle.gs_inputs.specs.Plans.{plan_in}
use Rattle.gs_inputs.specs.Scripts.{script_in}
use Rattle.gs_inputs.specs.Sources.{FilesSeen, Source, IsRead, IsUnread}
use Rattle.gs_inputs.specs.declared.source.Kind.{Kind}
use Rattle.gs_inputs.specs.declared.source.Kind.TheVariants as kind

-- the word names this accepted plan
abbrev pub IsPlan : FilesSeen → List ℕ → Plan → Type 0
IsPlan files word plan = (source : Source) × IsRead files kind.Plan word source × (plan_in source ≡ Ok (text_of plan))

-- the word names this script for a plan
abbrev pub IsScriptFor : FilesSeen → List ℕ → Plan → Said → Type 0
IsScriptFor files word plan said =
    (source : Source) × IsRead files kind.Script word source × (script_in (text_of plan) source ≡ Ok said)

-- what was read as a plan is refused with this answer
abbrev pub IsPlanRefused : FilesSeen → List ℕ → Answer → Type 0
IsPlanRefused files word answer = (source : Source) × IsRead files kind.Plan word source × (plan_in source ≡ Err answer)

-- what was read as a script for a plan is refused with this answer
abbrev pub IsScriptRefused : FilesSeen → List ℕ → Plan → Answer → Type 0
IsScriptRefused files word plan answer =
    (source : Source) × IsRead files kind.Script word source × (script_in (text_of plan) source ≡ Err answer)

-- something was read
abbrev pub WasRead : FilesSeen → Kind → List ℕ → Type 0
WasRead files kind word = (source : Source) × IsRead files kind word source

-- What keeps a command from its plan: its file could not be read, or it is refused.
abbrev pub IsNoPlan : FilesSeen → List ℕ → Answer → Type 0
IsNoPlan files word answer = IsUnread files kind.Plan word answer ⊎ IsPlanRefused files word answer

-- What keeps a command from its plan and script, in this order: the plan's file, the script's file, the plan, the
-- script.
abbrev pub AreNoInputs : FilesSeen → List ℕ → List ℕ → Answer → Type 0
AreNoInputs files plan_word script_word answer =
    IsUnread files kind.Plan plan_word answer
    ⊎ (WasRead files kind.Plan plan_word × IsUnread files kind.Script script_word answer)
    ⊎ (WasRead files kind.Script script_word × IsPlanRefused files plan_word answer)
    ⊎ ((plan : Plan) × IsPlan files plan_word plan × IsScriptRefused files script_word plan answer)

-- This answers a command on a plan: `Is` says what answers it for a plan that is accepted.
abbrev pub IsAnswerOn : FilesSeen → List ℕ → (Plan → Answer → Type 0) → Answer → Type 0
IsAnswerOn files word Is answer = ((plan : Plan) × IsPlan files word plan × Is plan answer) ⊎ IsNoPlan files word answer

-- This answers a command on a plan and a script: `Is` says what answers it where both are accepted.
abbrev pub IsAnswerOver : FilesSeen → List ℕ → List ℕ → (Plan → Said → Answer → Type 0) → Answer → Type 0
IsAnswerOver files plan_word script_word Is answer =
    ((plan : Plan) × (said : Said) × IsPlan files plan_word plan × IsScriptFor files script_word plan said
    × Is plan said answer)
    ⊎ AreNoInputs files plan_word script_word answer
