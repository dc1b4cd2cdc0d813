-- The answer to `trace`, and a run of it. A trace is written as it comes, so a run in which memory runs out may have
-- written a prefix of it.
use Rattle.std.specs.Prelude.{◌≡◌, ℕ, ◌⊎◌, List, Option, Some, None}
use Rattle.gs_io.specs.Held.{AppendsFront}
use Rattle.gs_plan.specs.declared.plan.Plan.{Plan}
use Rattle.gs_script.specs.Script.{Said}
use Rattle.gs_calendar.specs.Breach.{Breach}
use Rattle.gs_calendar.specs.Scripts.{breach_of_script}
use Rattle.gs_record.specs.Recorded.{trace_of}
use Rattle.gs_cli.specs.Answers.{Answer, Gives}
use Rattle.gs_cli.specs.declared.status.Status.{Status}
use Rattle.gs_cli.specs.declared.status.Status.TheVariants as status
use Rattle.gs_inputs.specs.Inputs.{IsAnswerOver}
use Rattle.gs_inputs.specs.Sources.{FilesSeen}

-- the status of a trace: a script's breach has its own
abbrev pub traced_status : Option Breach → Status
traced_status None = status.Done
traced_status (Some breach) = status.Breach

-- the answer to `trace`: the trace of the script's events, up to and with the first breach, and no line
abbrev pub traced : Plan → Said → Answer
traced plan said = record { status = traced_status (breach_of_script plan said); text = trace_of plan said }

abbrev pub IsTraced : Plan → Said → Answer → Type 0
IsTraced plan said answer = answer ≡ traced plan said

-- memory ran out when a prefix of the answer was written
abbrev pub IsStarvedAmid : Answer → Option (List ℕ) → Option (List ℕ) → Status → Type 0
IsStarvedAmid answer old new ended = (ended ≡ status.OutOfMemory) × AppendsFront old new answer.text

-- the answer was written, or its writing ended early
abbrev pub IsTraceEnd : Answer → Option (List ℕ) → Option (List ℕ) → ℕ → ℕ → Status → Type 0
IsTraceEnd answer old new before after ended =
    Gives answer old new before after ended ⊎ IsStarvedAmid answer old new ended

-- What a run of `trace PLAN SCRIPT` does: it writes its answer, or memory was short, before or amid the writing.
abbrev pub TraceRuns : FilesSeen → List ℕ → List ℕ → Option (List ℕ) → Option (List ℕ) → ℕ → ℕ → Status → Type 0
TraceRuns files plan script old new before after ended =
    ((answer : Answer) × IsAnswerOver files plan script IsTraced answer × IsTraceEnd answer old new before after ended)
    ⊎ ((ended ≡ status.OutOfMemory) × (new ≡ old))
