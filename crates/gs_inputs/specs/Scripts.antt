-- The script of what a SCRIPT word was read as, and what refuses it.
use Rattle.std.specs.Prelude.{ℕ, ◌-◌, ◌^◌, List, ◌++◌, Option, Some, None, Result, Ok, Err, codes}
use Rattle.gs_planfile.specs.declared.text.PlanText.{PlanText}
use Rattle.gs_script.specs.FaultWords.{why_of}
use Rattle.gs_script.specs.Reading.{script_of, steady_of}
use Rattle.gs_script.specs.Script.{Said}
use Rattle.gs_script.specs.declared.fault.ScriptFault.{ScriptFault}
use Rattle.gs_cli.specs.Answers.{Answer, line}
use Rattle.gs_cli.specs.Words.{number_within}
use Rattle.gs_inputs.specs.Sources.{Source, Count, Text}
use Rattle.gs_cli.specs.declared.status.Status.TheVariants as status

-- a script that is refused
abbrev pub script_refused : List ℕ → Answer
script_refused why = line status.InputRefused (codes "script refused: " ++ why)

abbrev pub said_from : Result Said ScriptFault → Result Said Answer
said_from (Ok said) = Ok said
said_from (Err fault) = Err (script_refused (why_of fault))

-- the script of so many quanta without a record
abbrev pub steady_from : PlanText → Option ℕ → Result Said Answer
steady_from text None = Err (script_refused (codes "number 1"))
steady_from text (Some n) = said_from (steady_of text n)

-- The script that was read, for a plan of this text, or what refuses it.
abbrev pub script_in : PlanText → Source → Result Said Answer
script_in text (Count count) = steady_from text (number_within 0 (2 ^ 64 - 1) count)
script_in text (Text bytes) = said_from (script_of text bytes)
