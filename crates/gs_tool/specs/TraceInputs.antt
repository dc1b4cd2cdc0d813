-- The inputs of a command on a plan and a trace, and what refuses them, in order.
use Rattle.std.specs.Prelude.{ℕ, ◌⊎◌, List}
use Rattle.gs_plan.specs.declared.plan.Plan.{Plan}
use Rattle.gs_cli.specs.Answers.{Answer}
use Rattle.gs_inputs.specs.Inputs.{IsPlan, IsPlanRefused, WasRead}
use Rattle.gs_inputs.specs.Sources.{FilesSeen, IsFault, IsFile, IsUnread}
use Rattle.gs_inputs.specs.declared.source.Kind.TheVariants as kind

-- the word names the file of a trace, which has these bytes
abbrev pub IsTrace : FilesSeen → List ℕ → List ℕ → Type 0
IsTrace files word bytes = IsFile 67108864 files word bytes

-- it could not be read, and this answers it
abbrev pub IsNoTrace : FilesSeen → List ℕ → Answer → Type 0
IsNoTrace files word answer = IsFault 67108864 files word answer

-- What keeps a command from its plan and the bytes of its trace, in this order: the plan's file, the trace's file, the
-- plan.
abbrev pub AreNoTraceInputs : FilesSeen → List ℕ → List ℕ → Answer → Type 0
AreNoTraceInputs files plan_word trace_word answer =
    IsUnread files kind.Plan plan_word answer
    ⊎ (WasRead files kind.Plan plan_word × IsNoTrace files trace_word answer)
    ⊎ ((bytes : List ℕ) × IsTrace files trace_word bytes × IsPlanRefused files plan_word answer)

-- This answers a command on a plan and a trace: `Is` says what answers it where the plan is accepted and the trace has
-- these bytes.
abbrev pub IsAnswerAlong : FilesSeen → List ℕ → List ℕ → (Plan → List ℕ → Answer → Type 0) → Answer → Type 0
IsAnswerAlong files plan_word trace_word Is answer =
    ((plan : Plan) × (bytes : List ℕ) × IsPlan files plan_word plan × IsTrace files trace_word bytes
    × Is plan bytes answer)
    ⊎ AreNoTraceInputs files plan_word trace_word answer
