-- An audit that ends with `Done` keeps its bounds, and where nothing fails audits and replays are done.
use Rattle.std.proofs.Common.{◌≡◌, ℕ, ◌<◌, inl, inr, List, length, Option, Some, None, IfSome, IsSomeAnd, arith, refl, sym, ◌∙◌, ap, subst}
use Rattle.gs_io.specs.Held.{Appends}
use Rattle.gs_planfile.specs.declared.text.PlanText.{PlanText}
use Rattle.gs_plan.specs.Nodes.{params_in}
use Rattle.gs_plan.specs.Plans.{graph_of, rate_of, text_of}
use Rattle.gs_plan.specs.declared.plan.Plan.{Plan}
use Rattle.gs_units.specs.declared.params.NodeParams.{NodeParams}
use Rattle.gs_core.specs.declared.event.Event.{Event}
use Rattle.gs_run.specs.declared.refused.Refused.{Refused}
use Rattle.gs_trace.specs.declared.fault.TraceFault.{TraceFault}
use Rattle.gs_trace.specs.declared.start.WorldStart.{WorldStart}
use Rattle.gs_audit.specs.NodeVerdicts.{TakesAll, node_verdict_of}
use Rattle.gs_audit.specs.Verdicts.{IsWithin, KeepsItsBounds, refusal_at, report_at, unless_refused, verdict_of}
use Rattle.gs_audit.specs.declared.verdict.NodeVerdict.{NodeVerdict}
use Rattle.gs_audit.specs.declared.verdict.NodeVerdict.TheVariants as node
use Rattle.gs_audit.specs.declared.verdict.Verdict.{Verdict}
use Rattle.gs_audit.specs.declared.verdict.Verdict.TheVariants as world
use Rattle.gs_audit.proofs.Exact.{is_exact, is_kept}
use Rattle.gs_cli.specs.Answers.{Answer, Gives}
use Rattle.gs_cli.specs.declared.status.Status.{Status}
use Rattle.gs_cli.specs.declared.status.Status.TheVariants as status
use Rattle.gs_tool.specs.AuditHeadline.{AuditsKeepBounds, IsAuditWithin}
use Rattle.gs_tool.specs.Audited.{IsAudited, IsReplayed, audit_answer, replay_answer}
use Rattle.gs_tool.specs.AuditsComplete.{AuditsComplete, HasTrace, IsAllowedTrace, IsTakenTrace}
use Rattle.gs_tool.specs.Commands.{Command}
use Rattle.gs_inputs.specs.AtHand.{HasPlan}
use Rattle.gs_inputs.specs.Plans.{plan_in}
use Rattle.gs_tool.specs.Runs.{IsAnswer, IsCommandAnswer}
use Rattle.gs_inputs.specs.Sources.{FilesSeen, IsFault}
use Rattle.gs_tool.specs.TraceInputs.{AreNoTraceInputs, IsAnswerAlong, IsTrace}
use Rattle.gs_inputs.specs.declared.source.Kind.TheVariants as kind
use Rattle.gs_inputs.proofs.AtHand.{never_refused, never_unread, same_plan}
use Rattle.gs_tool.proofs.Completing.{is_completed}
use Rattle.gs_inputs.proofs.Refusing.{IsRefusal, fault_refuses, plan_refusal, refuses}

-- ---- inputs

no_trace_inputs_refuse : (files : FilesSeen) (plan_word trace_word : List ℕ) (answer : Answer)
    → AreNoTraceInputs files plan_word trace_word answer → IsRefusal answer
no_trace_inputs_refuse files plan_word trace_word answer (inl unread) = fault_refuses 1048576 files plan_word answer unread.1
no_trace_inputs_refuse files plan_word trace_word answer (inr (inl (read, fault))) =
    fault_refuses 67108864 files trace_word answer fault
no_trace_inputs_refuse files plan_word trace_word answer (inr (inr (bytes, is_trace, (source, is_read, refused)))) =
    refuses (plan_in source) answer (plan_refusal source) refused

-- a file at hand has its bytes
same_bytes : (files : FilesSeen) (word here read : List ℕ) → HasTrace files word here → IsTrace files word read → here ≡ read
same_bytes files word here read (told, tells, has, short, calm) (holds, short_too) =
    let said : told word ≡ Some read =
    subst (λ (c : Option (List ℕ → Option (List ℕ))). IfSome c (λ told. told word ≡ Some read)) tells holds in
    let one : Some here ≡ Some read = sym has ∙ said in
    cc

-- and was read
trace_never_unread : (files : FilesSeen) (word here : List ℕ) (answer : Answer) → HasTrace files word here
    → IsFault 67108864 files word answer → ⊥
trace_never_unread files word here answer (told, tells, has, short, calm) fault = elim fault [
  | inl long ↦ (
      let longer : IsSomeAnd (told word) (λ held. 67108864 < length held) =
      subst (λ (c : Option (List ℕ → Option (List ℕ))). IfSome c (λ told. IsSomeAnd (told word) (λ held. 67108864 < length held)))
      tells long.0 in
      let over : 67108864 < length here = subst (λ (o : Option (List ℕ)). IsSomeAnd o (λ held. 67108864 < length held)) has longer in
      omega arith
      )
  | inr failed ↦ calm failed.0
]

-- what keeps a command from a plan and a trace does not come
trace_inputs_at_hand : (files : FilesSeen) (plan_word trace_word : List ℕ) (text : PlanText) (bytes : List ℕ) (answer : Answer)
    → HasPlan files plan_word text → HasTrace files trace_word bytes → AreNoTraceInputs files plan_word trace_word answer → ⊥
trace_inputs_at_hand files plan_word trace_word text bytes answer (here, at_hand, accepted) has_trace (inl unread) =
    never_unread files kind.Plan plan_word here answer at_hand unread
trace_inputs_at_hand files plan_word trace_word text bytes answer has_plan has_trace (inr (inl (read, fault))) =
    trace_never_unread files trace_word bytes answer has_trace fault
trace_inputs_at_hand files plan_word trace_word text bytes answer has_plan has_trace
    (inr (inr (read, is_trace, (source, is_read, refused)))) =
    never_refused files plan_word text source answer has_plan is_read refused

-- a command on a plan and a trace
along_at_hand : (Is : Plan → List ℕ → Answer → Type 0) (files : FilesSeen) (plan_word trace_word : List ℕ)
    (text : PlanText) (bytes : List ℕ) (answer : Answer) → HasPlan files plan_word text → HasTrace files trace_word bytes
    → IsAnswerAlong files plan_word trace_word Is answer → (plan : Plan) × (text_of plan ≡ text) × Is plan bytes answer
along_at_hand Is files plan_word trace_word text bytes answer has_plan has_trace
    (inl (plan, read, (source, is_read, accepted), is_trace, is)) =
    let same : bytes ≡ read = same_bytes files trace_word bytes read has_trace is_trace in (
      plan,
      same_plan files plan_word text (text_of plan) source has_plan is_read accepted,
      subst (λ (b : List ℕ). Is plan b answer) (sym same) is,
    )
along_at_hand Is files plan_word trace_word text bytes answer has_plan has_trace (inr refused) =
    absurd (trace_inputs_at_hand files plan_word trace_word text bytes answer has_plan has_trace refused)

-- ---- an audit that is done

ends : (a b : Answer) → a ≡ b → a.status ≡ b.status
ends a b is = ap (λ (x : Answer). x.status) is

-- a verdict that is answered with `Done` is a report
within_done : (p : Plan) (s : WorldStart) (es : List Event) (o : Option (ℕ × Refused)) (answer : Answer) → refusal_at p s es ≡ o
    → answer ≡ audit_answer p (unless_refused o (report_at p s es)) → answer.status ≡ status.Done
    → (answer ≡ audit_answer p (world.Within (report_at p s es))) × (verdict_of p s es ≡ world.Within (report_at p s es))
within_done p s es None answer none is done = (is, ap (λ (x : Option (ℕ × Refused)). unless_refused x (report_at p s es)) none)
within_done p s es (Some first) answer some is done =
    absurd (let ended : status.Breach ≡ status.Done = sym (ends answer _ is) ∙ done in cc)

audited_within : (files : FilesSeen) (plan_word trace_word : List ℕ) (old new : Option (List ℕ)) (answer : Answer)
    → IsAnswerAlong files plan_word trace_word IsAudited answer → answer.status ≡ status.Done → Appends old new answer.text
    → IsAuditWithin files plan_word trace_word old new
audited_within files plan_word trace_word old new answer (inr refused) done written =
    absurd (no_trace_inputs_refuse files plan_word trace_word answer refused done)
audited_within files plan_word trace_word old new answer (inl (plan, bytes, is_plan, is_trace, inr (fault, first, is))) done written =
    absurd (let ended : status.InputRefused ≡ status.Done = sym (ends answer _ is) ∙ done in cc)
audited_within files plan_word trace_word old new answer (inl (plan, bytes, is_plan, is_trace, inl (s, es, spelled, is))) done written =
    let both = within_done plan s es (refusal_at plan s es) answer refl is done in
    let within : verdict_of plan s es ≡ world.Within (report_at plan s es) = both.1 in
    let exact = (is_exact plan s es (verdict_of plan s es) refl).0 in
    record {
      plan = plan;
      start = s;
      events = es;
      bytes = bytes;
      is_plan = is_plan;
      is_trace = is_trace;
      spelled = spelled;
      allowed = exact (subst IsWithin (sym within) tt);
      kept = subst (KeepsItsBounds plan s es) within (is_kept plan s es (verdict_of plan s es) refl);
      written = subst (λ (a : Answer). Appends old new a.text) both.0 written;
    }

-- A run that answers its words keeps the bounds of what it audits.
pub audits_keep_bounds : (files : FilesSeen) (words : List (List ℕ)) (answer : Answer)
    (old new : Option (List ℕ)) (before after : ℕ) (ended : Status)
    → IsAnswer files words answer → Gives answer old new before after ended → AuditsKeepBounds files words old new ended
audits_keep_bounds files words answer old new before after ended answers gives plan trace is_audit done =
    let audits : IsAnswerAlong files plan trace IsAudited answer =
    subst (λ (c : Option Command). IsCommandAnswer files c answer) is_audit answers in
    elim gives [
      | inl whole ↦ audited_within files plan trace old new answer audits (sym whole.0 ∙ done) whole.1
      | inr cut ↦ absurd (let failed : status.WriteFault ≡ status.Done = sym cut.0 ∙ done in cc)
    ]

-- ---- audits and replays are done

-- no fault is none
no_fault : (o : Option TraceFault) (fault : TraceFault) → o ≡ None → o ≡ Some fault → ⊥
no_fault o fault none some = let both : None ≡ Some fault = sym none ∙ some in cc

report_done : (p : Plan) (v : Verdict) → IsWithin v → (audit_answer p v).status ≡ status.Done
report_done p (world.Within report) within = refl
report_done p (world.Refused index why) within = absurd within

audit_done : (p : Plan) (bytes : List ℕ) (answer : Answer) → IsAllowedTrace p bytes → IsAudited p bytes answer
    → answer.status ≡ status.Done
audit_done p bytes answer allowed (inl (s, es, spelled, is)) =
    let exact = (is_exact p s es (verdict_of p s es) refl).1 in
    ends answer _ is ∙ report_done p (verdict_of p s es) (exact (allowed.allowed s es spelled))
audit_done p bytes answer allowed (inr (fault, first, is)) = absurd (no_fault _ fault allowed.whole first)

line_done : (v count : ℕ) (verdict : NodeVerdict) → TakesAll verdict → (replay_answer v count verdict).status ≡ status.Done
line_done v count (node.Within l m mode) all = refl
line_done v count (node.Refused index why) all = absurd all

replay_done : (p : Plan) (v : ℕ) (bytes : List ℕ) (answer : Answer) → IsTakenTrace p v bytes → IsReplayed v p bytes answer
    → answer.status ≡ status.Done
replay_done p v bytes answer taken (inl (past, is)) = let node = taken.node in absurd (omega (arith, past, node))
replay_done p v bytes answer taken (inr (node, inl (s, es, spelled, is))) =
    let params : NodeParams = params_in (text_of p) (graph_of p) (rate_of p) v in
    ends answer _ is ∙ line_done v (length es) (node_verdict_of params s es) (taken.taken s es spelled)
replay_done p v bytes answer taken (inr (node, inr (fault, first, is))) = absurd (no_fault _ fault taken.whole first)

-- A run that answers its words completes.
pub audits_complete : (files : FilesSeen) (words : List (List ℕ)) (answer : Answer)
    (old new : Option (List ℕ)) (before after : ℕ) (ended : Status)
    → IsAnswer files words answer → Gives answer old new before after ended → AuditsComplete files words before after ended
audits_complete files words answer old new before after ended answers gives = record {
  audits = λ plan_word trace_word text bytes is has_plan has_trace allowed calm.
      let (plan, same, audits) = along_at_hand IsAudited files plan_word trace_word text bytes answer has_plan has_trace
      (subst (λ (c : Option Command). IsCommandAnswer files c answer) is answers) in
      is_completed answer old new before after ended (audit_done plan bytes answer (allowed plan same) audits) gives calm;
  replays = λ plan_word trace_word v text bytes is has_plan has_trace taken calm.
      let (plan, same, replays) = along_at_hand (IsReplayed v) files plan_word trace_word text bytes answer has_plan has_trace
      (subst (λ (c : Option Command). IsCommandAnswer files c answer) is answers) in
      is_completed answer old new before after ended (replay_done plan v bytes answer (taken plan same) replays) gives calm;
}
