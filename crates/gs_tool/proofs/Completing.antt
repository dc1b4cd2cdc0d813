-- Where all inputs are at hand and accepted, a command gives the answer of its own.
use Rattle.std.proofs.Common.{◌≡◌, ℕ, inl, inr, List, Option, Some, None, Ok, Err}
use Rattle.std.proofs.Common.{sym, ◌∙◌, ap, subst}
use Rattle.std.proofs.lemmas.Result.{IfOk-at_ok}
use Rattle.gs_io.specs.Causes.{Rose}
use Rattle.gs_planfile.specs.declared.text.PlanText.{PlanText}
use Rattle.gs_plan.specs.Plans.{text_of}
use Rattle.gs_plan.specs.declared.plan.Plan.{Plan}
use Rattle.gs_script.specs.Script.{Said}
use Rattle.gs_calendar.specs.Breach.{Breach}
use Rattle.gs_calendar.specs.Losses.{LosesFew}
use Rattle.gs_calendar.specs.Scripts.{IsReadFor, breach_of_script}
use Rattle.gs_calendar.proofs.FewLosses.{few_losses}
use Rattle.gs_tdma.specs.Faults.{slot_fault}
use Rattle.gs_cli.specs.Answers.{Answer, Gives}
use Rattle.gs_tool.specs.Commands as command
use Rattle.gs_tool.specs.Commands.{Command, command_of}
use Rattle.gs_inputs.specs.AtHand.{HasPlan, HasScript, IsCompleted}
use Rattle.gs_inputs.proofs.AtHand.{never_no_plan, never_refused, never_unread, same_plan, same_source}
use Rattle.gs_tool.specs.Completeness.{Completes, Plays}
use Rattle.gs_inputs.specs.Inputs.{AreNoInputs, IsAnswerOn, IsAnswerOver}
use Rattle.gs_tool.specs.Orders.{ordered}
use Rattle.gs_tool.specs.Runs.{IsAnswer, IsCommandAnswer, IsMigrated, IsPlanned, IsSlotted, IsSlottedOr, IsTold, played, told}
use Rattle.gs_inputs.specs.Scripts.{script_in}
use Rattle.gs_tool.specs.Settled.{settled}
use Rattle.gs_tool.specs.Slotted.{slotted}
use Rattle.gs_inputs.specs.Sources.{FilesSeen, Source, IsRead}
use Rattle.gs_tool.specs.Traced.{IsTraced, traced_status}
use Rattle.gs_inputs.specs.declared.source.Kind.TheVariants as kind
use Rattle.gs_cli.specs.declared.status.Status.{Status}
use Rattle.gs_cli.specs.declared.status.Status.TheVariants as status
use Rattle.gs_tool.proofs.Generating.{generated_done}
use Rattle.gs_inputs.proofs.Results.{no_refusal, one_value}
use Rattle.gs_tool.proofs.ScriptsRead.{script_is_read}

same_script : (files : FilesSeen) (word : List ℕ) (text : PlanText) (said found : Said) (source : Source)
    → HasScript files word text said → IsRead files kind.Script word source → script_in text source ≡ Ok found → found ≡ said
same_script files word text said found source (here, at_hand, accepted) is_read is =
    let same : here ≡ source = same_source files kind.Script word here source at_hand is_read in
    one_value (script_in text source) found said is (ap (script_in text) (sym same) ∙ accepted)

script_never_refused : (files : FilesSeen) (word : List ℕ) (text : PlanText) (said : Said) (source : Source) (answer : Answer)
    → HasScript files word text said → IsRead files kind.Script word source → script_in text source ≡ Err answer → ⊥
script_never_refused files word text said source answer (here, at_hand, accepted) is_read refused =
    let same : here ≡ source = same_source files kind.Script word here source at_hand is_read in
    no_refusal (script_in text source) said answer (ap (script_in text) (sym same) ∙ accepted) refused

-- a command on a plan
pub on_at_hand : (Is : Plan → Answer → Type 0) (files : FilesSeen) (word : List ℕ) (text : PlanText) (answer : Answer)
    → HasPlan files word text → IsAnswerOn files word Is answer → (plan : Plan) × (text_of plan ≡ text) × Is plan answer
on_at_hand Is files word text answer has (inl (plan, (source, is_read, accepted), is)) =
    (plan, same_plan files word text (text_of plan) source has is_read accepted, is)
on_at_hand Is files word text answer has (inr no_plan) = absurd (never_no_plan files word text answer has no_plan)

-- what keeps a command from inputs does not come
inputs_at_hand : (files : FilesSeen) (plan_word script_word : List ℕ) (text : PlanText) (said : Said) (answer : Answer)
    → HasPlan files plan_word text → HasScript files script_word text said
    → AreNoInputs files plan_word script_word answer → ⊥
inputs_at_hand files plan_word script_word text said answer (here, at_hand, accepted) has_script (inl unread) =
    never_unread files kind.Plan plan_word here answer at_hand unread
inputs_at_hand files plan_word script_word text said answer has_plan (here, at_hand, accepted) (inr (inl (read, unread))) =
    never_unread files kind.Script script_word here answer at_hand unread
inputs_at_hand files plan_word script_word text said answer has_plan has_script (inr (inr (inl (read, (source, is_read, refused))))) =
    never_refused files plan_word text source answer has_plan is_read refused
inputs_at_hand files plan_word script_word text said answer has_plan has_script
    (inr (inr (inr (plan, (source, is_read, accepted), (told, is_told, refused))))) =
    let same : text_of plan ≡ text = same_plan files plan_word text (text_of plan) source has_plan is_read accepted in
    script_never_refused files script_word text said told answer has_script is_told
    (subst (λ (t : PlanText). script_in t told ≡ Err answer) same refused)

-- a command on a plan and a script
pub over_at_hand : (Is : Plan → Said → Answer → Type 0) (files : FilesSeen) (plan_word script_word : List ℕ)
    (text : PlanText) (said : Said) (answer : Answer) → HasPlan files plan_word text → HasScript files script_word text said
    → IsAnswerOver files plan_word script_word Is answer → (plan : Plan) × (text_of plan ≡ text) × Is plan said answer
over_at_hand Is files plan_word script_word text said answer has_plan has_script
    (inl (plan, found, (source, is_read, accepted), (told, is_told, is_script), is)) =
    let same : text_of plan ≡ text = same_plan files plan_word text (text_of plan) source has_plan is_read accepted in
    let one : found ≡ said = same_script files script_word text said found told has_script is_told
    (subst (λ (t : PlanText). script_in t told ≡ Ok found) same is_script) in
    (plan, same, subst (λ (s : Said). Is plan s answer) one is)
over_at_hand Is files plan_word script_word text said answer has_plan has_script (inr refused) =
    absurd (inputs_at_hand files plan_word script_word text said answer has_plan has_script refused)

-- an answer that is done is written, where the sink does not fail
pub is_completed : (answer : Answer) (old new : Option (List ℕ)) (before after : ℕ) (ended : Status)
    → answer.status ≡ status.Done → Gives answer old new before after ended → ¬ (Rose before after) → IsCompleted ended
is_completed answer old new before after ended done gives calm = elim gives [
  | inl whole ↦ inl (whole.0 ∙ done)
  | inr cut ↦ absurd (calm cut.2)
]

-- ---- a play to the end

-- what is at hand for it
pub record IsReady (files : FilesSeen) (plan_word script_word : List ℕ) (text : PlanText) (said : Said) : Type 0 where
  pub plan : HasPlan files plan_word text
  pub script : HasScript files script_word text said
  pub unbreached : (p : Plan) → text_of p ≡ text → breach_of_script p said ≡ None

-- so it is done
told_done : (tells : Plan → Said → List ℕ) (files : FilesSeen) (plan_word script_word : List ℕ) (text : PlanText) (said : Said)
    (answer : Answer) → IsReady files plan_word script_word text said
    → IsAnswerOver files plan_word script_word (IsTold tells) answer → answer.status ≡ status.Done
told_done tells files plan_word script_word text said answer ready answers =
    let (plan, same, is) = over_at_hand (IsTold tells) files plan_word script_word text said answer ready.plan ready.script answers in
    let done : answer ≡ told None (tells plan said) =
    subst (λ (b : _). answer ≡ told b (tells plan said)) (ready.unbreached plan same) is in
    ap (λ (a : Answer). a.status) done

-- so is a trace
traced_done : (files : FilesSeen) (plan_word script_word : List ℕ) (text : PlanText) (said : Said)
    (answer : Answer) → IsReady files plan_word script_word text said
    → IsAnswerOver files plan_word script_word IsTraced answer → answer.status ≡ status.Done
traced_done files plan_word script_word text said answer ready answers =
    let (plan, same, is) = over_at_hand IsTraced files plan_word script_word text said answer ready.plan ready.script answers in
    ap (λ (a : Answer). a.status) is ∙ ap (λ (b : Option Breach). traced_status b) (ready.unbreached plan same)

-- and so is every command that plays a script to its end
play_done : (files : FilesSeen) (plan_word script_word : List ℕ) (text : PlanText) (said : Said) (answer : Answer)
    (c : Option Command) → IsReady files plan_word script_word text said
    → Plays c plan_word script_word → IsCommandAnswer files c answer → answer.status ≡ status.Done
play_done files plan_word script_word text said answer None ready is answers = absurd is
play_done files plan_word script_word text said answer (Some (command.Plan word)) ready is answers = absurd is
play_done files plan_word script_word text said answer (Some (command.Play plan script workers)) ready (first, second) answers =
    told_done played files plan_word script_word text said answer ready (rw (← first, ← second) answers)
play_done files plan_word script_word text said answer (Some (command.Trace plan script)) ready (first, second) answers =
    traced_done files plan_word script_word text said answer ready (rw (← first, ← second) answers)
play_done files plan_word script_word text said answer (Some (command.Audit plan trace)) ready is answers = absurd is
play_done files plan_word script_word text said answer (Some (command.Replay plan node trace)) ready is answers = absurd is
play_done files plan_word script_word text said answer (Some (command.Gen number size part)) ready is answers = absurd is
play_done files plan_word script_word text said answer (Some (command.Migrate word)) ready is answers = absurd is
play_done files plan_word script_word text said answer (Some (command.Settle plan script gamma)) ready (first, second) answers =
    told_done (settled gamma) files plan_word script_word text said answer ready (rw (← first, ← second) answers)
play_done files plan_word script_word text said answer (Some (command.Slots plan script reach slot)) ready is answers = absurd is
play_done files plan_word script_word text said answer (Some (command.Order plan script every)) ready (first, second) answers =
    told_done (ordered every) files plan_word script_word text said answer ready (rw (← first, ← second) answers)

-- `slots` moreover needs a slot plan
slots_done : (files : FilesSeen) (plan_word script_word : List ℕ) (reach slot : ℕ) (text : PlanText) (said : Said) (answer : Answer)
    → IsReady files plan_word script_word text said → ((p : Plan) → text_of p ≡ text → slot_fault p reach slot ≡ None)
    → IsAnswerOver files plan_word script_word (IsSlotted reach slot) answer → answer.status ≡ status.Done
slots_done files plan_word script_word reach slot text said answer ready unfaulted answers =
    let (plan, same, is) = over_at_hand (IsSlotted reach slot) files plan_word script_word text said answer ready.plan ready.script answers in
    let by_slots : IsSlottedOr None reach slot plan said answer =
    subst (λ (f : _). IsSlottedOr f reach slot plan said answer) (unfaulted plan same) is in
    let (s, are_slots, same_reach, same_slot, tells) = by_slots in
    let done : answer ≡ told None (slotted s plan said) =
    subst (λ (b : _). answer ≡ told b (slotted s plan said)) (ready.unbreached plan same) tells in
    ap (λ (a : Answer). a.status) done

-- a script of few losses has no breach
unbreached_by : (files : FilesSeen) (plan_word script_word : List ℕ) (text : PlanText) (said : Said)
    → HasScript files script_word text said → ((p : Plan) → text_of p ≡ text → LosesFew p said)
    → (p : Plan) → text_of p ≡ text → breach_of_script p said ≡ None
unbreached_by files plan_word script_word text said (source, at_hand, is_script) few p same =
    let is : script_in (text_of p) source ≡ Ok said = ap (λ (t : PlanText). script_in t source) same ∙ is_script in
    let read : IsReadFor (text_of p) said = IfOk-at_ok (IsReadFor (text_of p)) is (script_is_read p source) in
    few_losses p said read.text read.bounds (few p same)

-- A run that answers its words completes.
pub answers_complete : (files : FilesSeen) (words : List (List ℕ)) (answer : Answer)
    (old new : Option (List ℕ)) (before after : ℕ) (ended : Status)
    → IsAnswer files words answer → Gives answer old new before after ended → Completes files words before after ended
answers_complete files words answer old new before after ended answers gives = record {
  plans = λ word text is_command has calm.
      is_completed answer old new before after ended (elim is_command [
        | inl is ↦ (
            let (plan, same, planned) = on_at_hand IsPlanned files word text answer has
            (subst (λ (c : Option Command). IsCommandAnswer files c answer) is answers) in
            ap (λ (a : Answer). a.status) planned
            )
        | inr is ↦ (
            let (plan, same, migrated) = on_at_hand IsMigrated files word text answer has
            (subst (λ (c : Option Command). IsCommandAnswer files c answer) is answers) in
            migrated.done
            )
      ]) gives calm;
  plays = λ plan_word script_word text said is has_plan has_script unbreached calm.
      is_completed answer old new before after ended
      (play_done files plan_word script_word text said answer (command_of words)
      (record { plan = has_plan; script = has_script; unbreached = unbreached }) is answers) gives calm;
  slots = λ plan_word script_word reach slot text said is has_plan has_script unbreached unfaulted calm.
      is_completed answer old new before after ended
      (slots_done files plan_word script_word reach slot text said answer
      (record { plan = has_plan; script = has_script; unbreached = unbreached }) unfaulted
      (subst (λ (c : Option Command). IsCommandAnswer files c answer) is answers)) gives calm;
  few_losses = λ plan_word script_word text said is has_plan has_script few calm.
      is_completed answer old new before after ended
      (play_done files plan_word script_word text said answer (command_of words)
      (record {
        plan = has_plan;
        script = has_script;
        unbreached = unbreached_by files plan_word script_word text said has_script few;
      }) is answers) gives calm;
  generates = λ number size wanted is free calm.
      is_completed answer old new before after ended (generated_done number size wanted answer free
      (subst (λ (c : Option Command). IsCommandAnswer files c answer) is answers)) gives calm;
}
