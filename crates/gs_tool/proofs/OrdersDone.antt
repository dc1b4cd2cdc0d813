-- An `order` that ends with `Done` has written events that are ordered.
use Rattle.std.proofs.Common.{◌≡◌, ℕ, ◌≤◌, inl, inr, List, Option, Some, None, refl, sym, ◌∙◌, ap, subst}
use Rattle.std.proofs.lemmas.Result.{IfOk-at_ok}
use Rattle.gs_io.specs.Held.{Appends}
use Rattle.gs_plan.specs.Plans.{text_of}
use Rattle.gs_plan.specs.declared.plan.Plan.{Plan}
use Rattle.gs_script.specs.Script.{Said}
use Rattle.gs_calendar.specs.Breach.{Breach}
use Rattle.gs_calendar.specs.Scripts.{IsReadFor, breach_of_script}
use Rattle.gs_order.proofs.Running.{scripts_are_ordered}
use Rattle.gs_cli.specs.Answers.{Answer, Gives}
use Rattle.gs_tool.specs.Commands.{Command, Order}
use Rattle.gs_inputs.specs.Inputs.{IsAnswerOver, IsPlan, IsScriptFor}
use Rattle.gs_tool.specs.Orders.{ordered}
use Rattle.gs_tool.specs.OrdersAgree.{IsOrderWritten, OrdersAgree}
use Rattle.gs_tool.specs.Runs.{IsAnswer, IsCommandAnswer, IsTold, told}
use Rattle.gs_inputs.specs.Sources.{FilesSeen}
use Rattle.gs_cli.specs.declared.status.Status.{Status}
use Rattle.gs_cli.specs.declared.status.Status.TheVariants as status
use Rattle.gs_tool.proofs.Done.{over_done}
use Rattle.gs_tool.proofs.InRange.{is_in_range}
use Rattle.gs_tool.proofs.ScriptsRead.{script_is_read}

-- over accepted inputs
order_written : {files : FilesSeen} {plan_word script_word : List ℕ} {old new : Option (List ℕ)}
    (plan : Plan) (said : Said) (every : ℕ) (answer : Answer) (breach : Option Breach) → 1 ≤ every
    → IsPlan files plan_word plan → IsScriptFor files script_word plan said → breach_of_script plan said ≡ breach
    → answer ≡ told breach (ordered every plan said) → answer.status ≡ status.Done → Appends old new answer.text
    → IsOrderWritten files plan_word script_word every old new
order_written plan said every answer (Some breach) some is_plan is_script first is done written =
    absurd (let ended : status.Breach ≡ status.Done = ap (λ (a : Answer). a.status) (sym is) ∙ done in cc)
order_written {old = old} {new = new} plan said every answer None some is_plan (source, is_read, is_script) none is done written =
    let read : IsReadFor (text_of plan) said = IfOk-at_ok (IsReadFor (text_of plan)) is_script (script_is_read plan source) in
    record {
      plan = plan;
      said = said;
      is_plan = is_plan;
      is_script = (source, is_read, is_script);
      unbreached = none;
      ordered = scripts_are_ordered plan said every some read.text read.bounds none;
      written = subst (λ (a : Answer). Appends old new a.text) is written;
    }

-- A run that answers its words has written ordered events.
pub orders_agree : (files : FilesSeen) (words : List (List ℕ)) (answer : Answer)
    (old new : Option (List ℕ)) (before after : ℕ) (ended : Status)
    → IsAnswer files words answer → Gives answer old new before after ended → OrdersAgree files words old new ended
orders_agree files words answer old new before after ended answers gives plan_word script_word every is_order done =
    let over : IsAnswerOver files plan_word script_word (IsTold (ordered every)) answer =
    subst (λ (c : Option Command). IsCommandAnswer files c answer) is_order answers in
    let range = is_in_range words (Order plan_word script_word every) is_order in
    elim gives [
      | inl whole ↦ (
          let (plan, said, is_plan, is_script, is) =
          over_done (IsTold (ordered every)) files plan_word script_word answer (sym whole.0 ∙ done) over in
          order_written plan said every answer (breach_of_script plan said) range.0 is_plan is_script refl is (sym whole.0 ∙ done) whole.1
          )
      | inr cut ↦ absurd (let failed : status.WriteFault ≡ status.Done = sym cut.0 ∙ done in cc)
    ]
