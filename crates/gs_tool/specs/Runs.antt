-- What a run of the program does.
use Rattle.std.specs.Prelude.{◌≡◌, ℕ, ◌⊎◌, Bool, true, false, List, [], ◌∷◌, Option, Some, None, Ok}
use Rattle.toml.specs.Parse.{parse_document}
use Rattle.gs_planfile.specs.Meaning.{plan_of}
use Rattle.gs_planfile.specs.Texts.{newest}
use Rattle.gs_planfile.specs.Writing.{written}
use Rattle.gs_plan.specs.Plans.{text_of, graph_of}
use Rattle.gs_plan.specs.declared.plan.Plan.{Plan}
use Rattle.gs_level.specs.ReportText.{report_text}
use Rattle.gs_script.specs.Script.{Said}
use Rattle.gs_calendar.specs.Breach.{Breach}
use Rattle.gs_calendar.specs.Scripts.{breach_of_script}
use Rattle.gs_play.specs.Scripts.{report_of_script}
use Rattle.gs_calendar.specs.StopTexts.{breach_text}
use Rattle.gs_tdma.specs.Faults.{slot_fault}
use Rattle.gs_tdma.specs.Slots.{AreSlots, Slots as SlotPlan}
use Rattle.gs_tdma.specs.declared.fault.SlotFault.{SlotFault}
use Rattle.gs_cli.specs.Answers.{Answer, Gives, line, usage}
use Rattle.gs_tool.specs.Commands as command
use Rattle.gs_tool.specs.Audited.{IsAudited, IsReplayed}
use Rattle.gs_tool.specs.Commands.{Audit, Command, Gen, Migrate, Order, Play, Replay, Settle, Slots, Trace, command_of, is_trace}
use Rattle.gs_tool.specs.Generated.{IsGenerated}
use Rattle.gs_inputs.specs.Inputs.{IsAnswerOn, IsAnswerOver}
use Rattle.gs_tool.specs.Orders.{ordered}
use Rattle.gs_tool.specs.PlanTexts.{plan_text}
use Rattle.gs_tool.specs.Settled.{settled}
use Rattle.gs_tool.specs.Slotted.{slot_refused, slotted}
use Rattle.gs_inputs.specs.Sources.{FilesSeen, are_built_in, is_built_in}
use Rattle.gs_tool.specs.TraceInputs.{IsAnswerAlong}
use Rattle.gs_tool.specs.Traced.{IsStarvedAmid, IsTraced}
use Rattle.gs_inputs.specs.declared.source.Kind.TheVariants as kind
use Rattle.gs_cli.specs.declared.status.Status.{Status}
use Rattle.gs_cli.specs.declared.status.Status.TheVariants as status

-- the answer to `plan`: the numbers of the plan
abbrev pub IsPlanned : Plan → Answer → Type 0
IsPlanned plan answer = answer ≡ record { status = status.Done; text = plan_text (text_of plan) (graph_of plan) }

-- the answer to `migrate`: a file that means the same plan in version 2, and has exactly the keys of that plan
pub record IsMigrated (plan : Plan) (answer : Answer) : Type 0 where
  pub done : answer.status ≡ status.Done
  pub same : plan_of answer.text ≡ Ok (newest (text_of plan))
  pub document : parse_document answer.text ≡ Some (written (text_of plan))

-- the answer to a command that plays a script to its end: the line of the script's first breach or, where it has none,
-- what is told of the play
abbrev pub told : Option Breach → List ℕ → Answer
told (Some breach) text = line status.Breach (breach_text breach)
told None text = record { status = status.Done; text = text }

-- this answers such a command, which tells this of a plan and a script
abbrev pub IsTold : (Plan → Said → List ℕ) → Plan → Said → Answer → Type 0
IsTold text plan said answer = answer ≡ told (breach_of_script plan said) (text plan said)

-- the text of `play`: the script's report
abbrev pub played : Plan → Said → List ℕ
played plan said = report_text (text_of plan) (graph_of plan) (report_of_script plan said)

-- the answer to `slots`: the fault of the reach and the slot or, where they have none, what a slot plan of them tells
abbrev pub IsSlottedOr : Option SlotFault → ℕ → ℕ → Plan → Said → Answer → Type 0
IsSlottedOr (Some fault) reach slot plan said answer = answer ≡ slot_refused fault
IsSlottedOr None reach slot plan said answer =
    (s : SlotPlan) × AreSlots plan s × (s.reach ≡ reach) × (s.slot ≡ slot) × IsTold (slotted s) plan said answer

abbrev pub IsSlotted : ℕ → ℕ → Plan → Said → Answer → Type 0
IsSlotted reach slot plan said answer = IsSlottedOr (slot_fault plan reach slot) reach slot plan said answer

-- This answers a command.
abbrev pub IsCommandAnswer : FilesSeen → Option Command → Answer → Type 0
IsCommandAnswer files None answer = answer ≡ usage
IsCommandAnswer files (Some (command.Plan plan)) answer = IsAnswerOn files plan IsPlanned answer
IsCommandAnswer files (Some (Migrate plan)) answer = IsAnswerOn files plan IsMigrated answer
IsCommandAnswer files (Some (Play plan script workers)) answer = IsAnswerOver files plan script (IsTold played) answer
IsCommandAnswer files (Some (Order plan script every)) answer =
    IsAnswerOver files plan script (IsTold (ordered every)) answer
IsCommandAnswer files (Some (Settle plan script gamma)) answer =
    IsAnswerOver files plan script (IsTold (settled gamma)) answer
IsCommandAnswer files (Some (Slots plan script reach slot)) answer =
    IsAnswerOver files plan script (IsSlotted reach slot) answer
IsCommandAnswer files (Some (Audit plan trace)) answer = IsAnswerAlong files plan trace IsAudited answer
IsCommandAnswer files (Some (Replay plan node trace)) answer = IsAnswerAlong files plan trace (IsReplayed node) answer
IsCommandAnswer files (Some (Gen number size part)) answer = IsGenerated number size part (IsTold played) answer
IsCommandAnswer files (Some (Trace plan script)) answer = IsAnswerOver files plan script IsTraced answer

-- This answers the words of a command line.
abbrev pub IsAnswer : FilesSeen → List (List ℕ) → Answer → Type 0
IsAnswer files words answer = IsCommandAnswer files (command_of words) answer

-- memory was short before anything was written
abbrev pub IsStarved : Option (List ℕ) → Option (List ℕ) → Status → Type 0
IsStarved old new ended = (ended ≡ status.OutOfMemory) × (new ≡ old)

-- memory was short amid the writing of a trace, which alone is written as it comes
abbrev pub IsTraceStarved : FilesSeen → List (List ℕ) → Option (List ℕ) → Option (List ℕ) → Status → Type 0
IsTraceStarved files words old new ended =
    (is_trace (command_of words) ≡ true)
    × ((answer : Answer) × IsAnswer files words answer × IsStarvedAmid answer old new ended)

-- What a run does: it gives the answer to its words, or is starved.
abbrev pub Runs : FilesSeen → List (List ℕ) → Option (List ℕ) → Option (List ℕ) → ℕ → ℕ → Status → Type 0
Runs files words old new before after ended =
    ((answer : Answer) × IsAnswer files words answer × Gives answer old new before after ended)
    ⊎ IsStarved old new ended
    ⊎ IsTraceStarved files words old new ended

-- Words that name no file, since they are no command or one that makes its inputs, or all that they name is built in.
abbrev pub names_no_file : Option Command → Bool
names_no_file (Some (command.Plan plan)) = is_built_in kind.Plan plan
names_no_file (Some (Migrate plan)) = is_built_in kind.Plan plan
names_no_file (Some (Play plan script workers)) = are_built_in plan script
names_no_file (Some (Order plan script every)) = are_built_in plan script
names_no_file (Some (Settle plan script gamma)) = are_built_in plan script
names_no_file (Some (Slots plan script reach slot)) = are_built_in plan script
names_no_file (Some (Trace plan script)) = are_built_in plan script
names_no_file (Some (Audit plan trace)) = false
names_no_file (Some (Replay plan node trace)) = false
names_no_file _ = true
