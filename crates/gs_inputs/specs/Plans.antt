-- The plan of what a PLAN word was read as, and what refuses it.
use Rattle.std.specs.Prelude.{ℕ, ◌-◌, ◌^◌, List, ◌++◌, Option, Some, None, Result, Ok, Err, codes, decimal}
use Rattle.gs_planfile.specs.Meaning.{plan_of}
use Rattle.gs_planfile.specs.Texts.{base_text}
use Rattle.gs_planfile.specs.FaultWords.{why_of as file_why}
use Rattle.gs_planfile.specs.declared.key.PlanFileFault.{PlanFileFault}
use Rattle.gs_planfile.specs.declared.text.PlanText.{PlanText}
use Rattle.gs_plan.specs.Faults.{plan_fault}
use Rattle.gs_plan.specs.FaultWords.{why_of as plan_why}
use Rattle.gs_plan.specs.declared.fault.PlanFault.{PlanFault}
use Rattle.gs_cli.specs.Answers.{Answer, line}
use Rattle.gs_cli.specs.Words.{number_within}
use Rattle.gs_inputs.specs.Sources.{Source, Count, Text}
use Rattle.gs_cli.specs.declared.status.Status.TheVariants as status

-- a plan that is refused
abbrev pub refused : List ℕ → Answer
refused why = line status.PlanRefused (codes "plan refused: " ++ why)

-- the text of a built-in plan
abbrev pub base_from : Option ℕ → Result PlanText Answer
base_from None = Err (refused (codes "number"))
base_from (Some n) = Ok (base_text n)

-- the text of a file that was read
abbrev pub parsed : Result PlanText PlanFileFault → Result PlanText Answer
parsed (Ok text) = Ok text
parsed (Err fault) = Err (refused (file_why fault))

-- the text that was read
abbrev pub text_from : Source → Result PlanText Answer
text_from (Count count) = base_from (number_within 0 (2 ^ 32 - 1) count)
text_from (Text bytes) = parsed (plan_of bytes)

-- a text, where its plan is accepted
abbrev pub accepted : PlanText → Option PlanFault → Result PlanText Answer
accepted text None = Ok text
accepted text (Some fault) = Err (refused (plan_why fault))

abbrev pub checked : Result PlanText Answer → Result PlanText Answer
checked (Err answer) = Err answer
checked (Ok text) = accepted text (plan_fault text)

-- The text of the accepted plan that was read, or what refuses it.
abbrev pub plan_in : Source → Result PlanText Answer
plan_in source = checked (text_from source)

-- a number that no node of the plan has
abbrev pub node_refused : ℕ → Answer
node_refused v = line status.InputRefused (codes "node refused: " ++ decimal v)
