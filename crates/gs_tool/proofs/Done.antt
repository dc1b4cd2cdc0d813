-- A play that ends with `Done` keeps its bounds.
use Rattle.std.proofs.Common.{◌≡◌, ℕ, inl, inr, List, Option, Some, None}
use Rattle.std.proofs.Common.{refl, sym, ◌∙◌, ap, subst}
use Rattle.std.proofs.lemmas.Result.{IfOk-at_ok}
use Rattle.gs_io.specs.Held.{Appends}
use Rattle.gs_plan.specs.Plans.{text_of}
use Rattle.gs_plan.specs.declared.plan.Plan.{Plan}
use Rattle.gs_script.specs.Script.{Said}
use Rattle.gs_calendar.specs.Breach.{Breach}
use Rattle.gs_calendar.specs.Scripts.{IsReadFor, breach_of_script}
use Rattle.gs_play.proofs.Keeping.{scripts_keep}
use Rattle.gs_cli.specs.Answers.{Answer, Gives}
use Rattle.gs_tool.specs.Commands.{Command}
use Rattle.gs_tool.specs.Headline.{IsPlayWithin, PlaysKeepBounds}
use Rattle.gs_inputs.specs.Inputs.{IsAnswerOver, IsPlan, IsScriptFor}
use Rattle.gs_tool.specs.Runs.{IsAnswer, IsCommandAnswer, IsTold, played, told}
use Rattle.gs_inputs.specs.Sources.{FilesSeen}
use Rattle.gs_cli.specs.declared.status.Status.{Status}
use Rattle.gs_cli.specs.declared.status.Status.TheVariants as status
use Rattle.gs_inputs.proofs.Refusing.{no_inputs_refuse}
use Rattle.gs_tool.proofs.ScriptsRead.{script_is_read}

-- the inputs of a command that is done were accepted
pub over_done : (Is : Plan → Said → Answer → Type 0) (files : FilesSeen) (plan_word script_word : List ℕ) (answer : Answer)
    → answer.status ≡ status.Done → IsAnswerOver files plan_word script_word Is answer
    → (plan : Plan) × (said : Said) × IsPlan files plan_word plan × IsScriptFor files script_word plan said
    × Is plan said answer
over_done Is files plan_word script_word answer done (inl accepted) = accepted
over_done Is files plan_word script_word answer done (inr refused) =
    absurd (no_inputs_refuse files plan_word script_word answer refused done)

-- a script that was played; its bounds are kept by the law of scripts
played_within : {files : FilesSeen} {plan_word script_word : List ℕ} {old new : Option (List ℕ)}
    (plan : Plan) (said : Said) (answer : Answer) (breach : Option Breach)
    → IsPlan files plan_word plan → IsScriptFor files script_word plan said → breach_of_script plan said ≡ breach
    → answer ≡ told breach (played plan said) → answer.status ≡ status.Done → Appends old new answer.text
    → IsPlayWithin files plan_word script_word old new
played_within plan said answer (Some breach) is_plan is_script first is done written =
    absurd (let ended : status.Breach ≡ status.Done = ap (λ (a : Answer). a.status) (sym is) ∙ done in cc)
played_within {old = old} {new = new} plan said answer None is_plan (source, is_read, is_script) none is done written =
    let read : IsReadFor (text_of plan) said = IfOk-at_ok (IsReadFor (text_of plan)) is_script (script_is_read plan source) in
    let keeps = scripts_keep plan said read.text read.bounds none in
    record {
      plan = plan;
      said = said;
      is_plan = is_plan;
      is_script = (source, is_read, is_script);
      kept = keeps.0;
      within = keeps.1;
      written = subst (λ (a : Answer). Appends old new a.text) is written;
    }

-- and so is the play of accepted inputs
play_within : {files : FilesSeen} {plan_word script_word : List ℕ} {old new : Option (List ℕ)} (answer : Answer)
    → IsAnswerOver files plan_word script_word (IsTold played) answer → answer.status ≡ status.Done → Appends old new answer.text
    → IsPlayWithin files plan_word script_word old new
play_within {files = files} {plan_word = plan_word} {script_word = script_word} answer answers done written =
    let (plan, said, is_plan, is_script, is) = over_done (IsTold played) files plan_word script_word answer done answers in
    played_within plan said answer (breach_of_script plan said) is_plan is_script refl is done written

-- A run that answers its words keeps the bounds of what it plays.
pub answers_keep_bounds : (files : FilesSeen) (words : List (List ℕ)) (answer : Answer)
    (old new : Option (List ℕ)) (before after : ℕ) (ended : Status)
    → IsAnswer files words answer → Gives answer old new before after ended → PlaysKeepBounds files words old new ended
answers_keep_bounds files words answer old new before after ended answers gives plan script workers is_play done =
    let plays : IsAnswerOver files plan script (IsTold played) answer =
    subst (λ (c : Option Command). IsCommandAnswer files c answer) is_play answers in
    elim gives [
      | inl whole ↦ play_within answer plays (sym whole.0 ∙ done) whole.1
      | inr cut ↦ absurd (let failed : status.WriteFault ≡ status.Done = sym cut.0 ∙ done in cc)
    ]
