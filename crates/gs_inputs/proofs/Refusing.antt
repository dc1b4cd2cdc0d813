-- What refuses an input is no answer that ends with `Done`.
use Rattle.std.proofs.Common.{◌≡◌, ℕ, inl, inr, Option, Some, None, List, Result, Ok, Err, IfErr, ap, sym, ◌∙◌, subst}
use Rattle.gs_planfile.specs.declared.key.PlanFileFault.{PlanFileFault}
use Rattle.gs_planfile.specs.declared.text.PlanText.{PlanText}
use Rattle.gs_planfile.specs.Meaning.{plan_of}
use Rattle.gs_plan.specs.Faults.{plan_fault}
use Rattle.gs_plan.specs.Plans.{text_of}
use Rattle.gs_plan.specs.declared.fault.PlanFault.{PlanFault}
use Rattle.gs_script.specs.Reading.{script_of, steady_of}
use Rattle.gs_script.specs.Script.{Said}
use Rattle.gs_script.specs.declared.fault.ScriptFault.{ScriptFault}
use Rattle.gs_cli.specs.Answers.{Answer}
use Rattle.gs_cli.specs.Words.{number_within}
use Rattle.gs_inputs.specs.Inputs.{AreNoInputs}
use Rattle.gs_inputs.specs.Plans.{accepted, base_from, checked, parsed, plan_in, text_from}
use Rattle.gs_inputs.specs.Scripts.{said_from, script_in, steady_from}
use Rattle.gs_inputs.specs.Sources.{FilesSeen, Source, Count, Text, IsFault}
use Rattle.gs_cli.specs.declared.status.Status.TheVariants as status

-- a refusal has a status of its own
abbrev pub IsRefusal : Answer → Type 0
IsRefusal answer = answer.status ≡ status.Done → ⊥

-- what answers an error
pub refuses : {T : Type 0} (read : Result T Answer) (answer : Answer) → IfErr read IsRefusal → read ≡ Err answer → IsRefusal answer
refuses read answer refusal is = subst (λ r. IfErr r IsRefusal) is refusal

pub fault_refuses : (most : ℕ) (files : FilesSeen) (name : List ℕ) (answer : Answer) → IsFault most files name answer
    → IsRefusal answer
fault_refuses most files name answer fault done = elim fault [
  | inl long ↦ (let ended : status.TooLong ≡ status.Done = ap (λ (a : Answer). a.status) (sym long.1) ∙ done in cc)
  | inr failed ↦ (let ended : status.ReadFault ≡ status.Done = ap (λ (a : Answer). a.status) (sym failed.1) ∙ done in cc)
]

base_refusal : (count : Option ℕ) → IfErr (base_from count) IsRefusal
base_refusal None = λ done. cc
base_refusal (Some n) = tt

parsed_refusal : (read : Result PlanText PlanFileFault) → IfErr (parsed read) IsRefusal
parsed_refusal (Ok text) = tt
parsed_refusal (Err fault) = λ done. cc

text_refusal : (source : Source) → IfErr (text_from source) IsRefusal
text_refusal (Count count) = base_refusal (number_within 0 4294967295 count)
text_refusal (Text bytes) = parsed_refusal (plan_of bytes)

accepted_refusal : (text : PlanText) (fault : Option PlanFault) → IfErr (accepted text fault) IsRefusal
accepted_refusal text None = tt
accepted_refusal text (Some fault) = λ done. cc

checked_refusal : (read : Result PlanText Answer) → IfErr read IsRefusal → IfErr (checked read) IsRefusal
checked_refusal (Err answer) refusal = refusal
checked_refusal (Ok text) refusal = accepted_refusal text (plan_fault text)

pub plan_refusal : (source : Source) → IfErr (plan_in source) IsRefusal
plan_refusal source = checked_refusal (text_from source) (text_refusal source)

said_refusal : (read : Result Said ScriptFault) → IfErr (said_from read) IsRefusal
said_refusal (Ok said) = tt
said_refusal (Err fault) = λ done. cc

steady_refusal : (text : PlanText) (count : Option ℕ) → IfErr (steady_from text count) IsRefusal
steady_refusal text None = λ done. cc
steady_refusal text (Some n) = said_refusal (steady_of text n)

script_refusal : (text : PlanText) (source : Source) → IfErr (script_in text source) IsRefusal
script_refusal text (Count count) = steady_refusal text (number_within 0 18446744073709551615 count)
script_refusal text (Text bytes) = said_refusal (script_of text bytes)

-- what keeps a command from its plan and script
pub no_inputs_refuse : (files : FilesSeen) (plan_word script_word : List ℕ) (answer : Answer)
    → AreNoInputs files plan_word script_word answer → IsRefusal answer
no_inputs_refuse files plan_word script_word answer (inl unread) =
    fault_refuses 1048576 files plan_word answer unread.1
no_inputs_refuse files plan_word script_word answer (inr (inl (read, unread))) =
    fault_refuses 1048576 files script_word answer unread.1
no_inputs_refuse files plan_word script_word answer (inr (inr (inl (read, (source, is_read, refused))))) =
    refuses (plan_in source) answer (plan_refusal source) refused
no_inputs_refuse files plan_word script_word answer (inr (inr (inr (plan, is_plan, (source, is_read, refused))))) =
    refuses (script_in (text_of plan) source) answer (script_refusal (text_of plan) source) refused
