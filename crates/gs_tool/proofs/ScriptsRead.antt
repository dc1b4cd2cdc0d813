-- What is read as a script for an accepted plan is a script for it.
use Rattle.std.proofs.Common.{ℕ, Option, Some, None, Result, Ok, Err, IfOk}
use Rattle.gs_planfile.specs.declared.text.PlanText.{PlanText}
use Rattle.gs_plan.specs.Plans.{text_of}
use Rattle.gs_plan.specs.declared.plan.Plan.{Plan}
use Rattle.gs_script.specs.Reading.{script_of, steady_of}
use Rattle.gs_script.specs.Script.{Said}
use Rattle.gs_script.specs.declared.fault.ScriptFault.{ScriptFault}
use Rattle.gs_script.proofs.ReadWithin.{IsReadOf, records_read, steady_read}
use Rattle.gs_calendar.specs.Scripts.{IsReadFor}
use Rattle.gs_cli.specs.Words.{number_within}
use Rattle.gs_inputs.specs.Scripts.{said_from, script_in, steady_from}
use Rattle.gs_inputs.specs.Sources.{Source, Count, Text}

-- what a word names is what its text means
said_read : (t : PlanText) (read : Result Said ScriptFault) → IfOk read (IsReadOf t) → IfOk (said_from read) (IsReadFor t)
said_read t (Ok said) is = record { text = is.0; bounds = is.1 }
said_read t (Err e) is = tt

steady_from_read : (p : Plan) (count : Option ℕ) → IfOk (steady_from (text_of p) count) (IsReadFor (text_of p))
steady_from_read p None = tt
steady_from_read p (Some n) = said_read (text_of p) (steady_of (text_of p) n) (steady_read p n)

-- the script that a word names
pub script_is_read : (p : Plan) (source : Source) → IfOk (script_in (text_of p) source) (IsReadFor (text_of p))
script_is_read p (Count count) = steady_from_read p (number_within 0 18446744073709551615 count)
script_is_read p (Text bytes) = said_read (text_of p) (script_of (text_of p) bytes) (records_read p _)
