-- What is generated is done where nothing stands in its way.
use Rattle.std.proofs.Common.{◌≡◌, ℕ, inl, inr, List, None, Ok, Err, ap, subst}
use Rattle.gs_planfile.specs.declared.text.PlanText.{PlanText}
use Rattle.gs_plan.specs.Plans.{text_of}
use Rattle.gs_plan.specs.declared.plan.Plan.{Plan}
use Rattle.gs_script.specs.Script.{Said}
use Rattle.gs_gen.specs.Texts.{plan_text, script_text}
use Rattle.gs_cli.specs.Answers.{Answer}
use Rattle.gs_cli.specs.declared.status.Status.TheVariants as status
use Rattle.gs_tool.specs.Generated.{AreAccepted, IsAnswerOf, IsGenerated, IsUnhindered}
use Rattle.gs_inputs.specs.Plans.{plan_in}
use Rattle.gs_tool.specs.Runs.{IsTold, played, told}
use Rattle.gs_inputs.specs.Scripts.{script_in}
use Rattle.gs_inputs.specs.Sources.{Text}
use Rattle.gs_tool.specs.declared.command.Part.{Part}
use Rattle.gs_tool.specs.declared.command.Part.TheVariants as part
use Rattle.gs_inputs.proofs.Results.{no_refusal, one_value}

-- the answer on bytes that are accepted
of_accepted : (Is : Plan → Said → Answer → Type 0) (plan_bytes script_bytes : List ℕ) (text : PlanText) (said : Said)
    (answer : Answer) → AreAccepted plan_bytes script_bytes text said → IsAnswerOf plan_bytes script_bytes Is answer
    → (plan : Plan) × (text_of plan ≡ text) × Is plan said answer
of_accepted Is plan_bytes script_bytes text said answer (is_plan, is_script) (inl (plan, found, (accepted, read), is)) =
    let same : text_of plan ≡ text = one_value (plan_in (Text plan_bytes)) (text_of plan) text accepted is_plan in
    let one : found ≡ said = one_value (script_in text (Text script_bytes)) found said
    (subst (λ (t : PlanText). script_in t (Text script_bytes) ≡ Ok found) same read) is_script in
    (plan, same, subst (λ (s : Said). Is plan s answer) one is)
of_accepted Is plan_bytes script_bytes text said answer (is_plan, is_script) (inr (inl refused)) =
    absurd (no_refusal (plan_in (Text plan_bytes)) text answer is_plan refused)
of_accepted Is plan_bytes script_bytes text said answer (is_plan, is_script) (inr (inr (plan, accepted, refused))) =
    let same : text_of plan ≡ text = one_value (plan_in (Text plan_bytes)) (text_of plan) text accepted is_plan in
    absurd (no_refusal (script_in text (Text script_bytes)) said answer is_script
    (subst (λ (t : PlanText). script_in t (Text script_bytes) ≡ Err answer) same refused))

-- the answer to `gen`, where nothing stands in its way
pub generated_done : (number size : ℕ) (wanted : Part) (answer : Answer)
    → IsUnhindered number size wanted → IsGenerated number size wanted (IsTold played) answer → answer.status ≡ status.Done
generated_done number size part.Plan answer free is = ap (λ (a : Answer). a.status) is
generated_done number size part.Script answer free is = ap (λ (a : Answer). a.status) is
generated_done number size part.Run answer (text, said, accepted, unbreached) is =
    let (plan, same, plays) =
    of_accepted (IsTold played) (plan_text size) (script_text number size) text said answer accepted is in
    let is_report : answer ≡ told None (played plan said) =
    subst (λ (b : _). answer ≡ told b (played plan said)) (unbreached plan same) plays in
    ap (λ (a : Answer). a.status) is_report
