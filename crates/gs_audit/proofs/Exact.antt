-- What follows from a verdict, and how an audit comes to it.
use Rattle.std.proofs.Common.{◌≡◌, ℕ, ◌+◌, ◌∙◌, ap, sym, refl, subst, List, Option, Some, None}
use Rattle.std.specs.Prelude.{◌≢◌, ◌↔◌, Result, Ok, Err, IfOk}
use Rattle.std.proofs.lemmas.List.FromFn.{length-map-range_with_len}
use Rattle.gs_core.specs.declared.event.Event.{Event}
use Rattle.gs_level.specs.declared.report.Report.{Report}
use Rattle.gs_plan.specs.Plans.{text_of}
use Rattle.gs_plan.specs.declared.plan.Plan.{Plan}
use Rattle.gs_trace.specs.declared.start.WorldStart.{WorldStart}
use Rattle.gs_run.specs.Nets.{net_of}
use Rattle.gs_run.specs.Run.{Allowed}
use Rattle.gs_run.specs.declared.refused.Refused.{Refused}
use Rattle.gs_run.specs.declared.refused.Refused.TheVariants.{OutOfMemory}
use Rattle.gs_run.proofs.FirstRefused.{allowed_from_none, none_from_allowed}
use Rattle.gs_run.proofs.PlanBounds.{plans_keep_bounds}
use Rattle.gs_run.proofs.Reasons.{none_wants_memory}
use Rattle.gs_world.proofs.Reporting.{reports_keep_bounds}
use Rattle.gs_audit.specs.inside.Refusing.{Refuses}
use Rattle.gs_audit.specs.Verdicts.{AreKept, IsWithin, KeepsItsBounds, NamesNoMemory, refusal_at, report_at, unless_refused, verdict_of, world_at}
use Rattle.gs_audit.specs.declared.verdict.Verdict.{Verdict}
use Rattle.gs_audit.specs.declared.verdict.Verdict.TheVariants as verdict

-- ---- what follows from a verdict

exact_of : (p : Plan) (s : WorldStart) (es : List Event) (o : Option (ℕ × Refused)) (report : Report) → refusal_at p s es ≡ o
    → IsWithin (unless_refused o report) ↔ Allowed (net_of p) (world_at p s) es
exact_of p s es None report e = ((λ h. allowed_from_none (net_of p) 0 (world_at p s) es e), (λ allowed. tt))
exact_of p s es (Some first) report e = (
  (λ h. absurd h),
  (λ allowed. let both : None ≡ Some first = sym (none_from_allowed (net_of p) 0 (world_at p s) es allowed) ∙ e in absurd (cc)),
)

-- it is a report exactly where all events are allowed
pub is_exact : (p : Plan) (s : WorldStart) (es : List Event) (v : Verdict) → v ≡ verdict_of p s es
    → IsWithin v ↔ Allowed (net_of p) (world_at p s) es
is_exact p s es v is = subst (λ (x : Verdict). IsWithin x ↔ Allowed (net_of p) (world_at p s) es) (sym is)
    (exact_of p s es (refusal_at p s es) (report_at p s es) refl)

are_kept : (p : Plan) (s : WorldStart) (es : List Event) → Allowed (net_of p) (world_at p s) es
    → AreKept p s es (report_at p s es)
are_kept p s es allowed = record {
  run = plans_keep_bounds p s.hw s.l0 es allowed;
  within = reports_keep_bounds p s.hw s.l0 es allowed;
  levels = length-map-range_with_len _ 0 ((text_of p).levels + 1);
}

kept_of : (p : Plan) (s : WorldStart) (es : List Event) (o : Option (ℕ × Refused)) → refusal_at p s es ≡ o
    → KeepsItsBounds p s es (unless_refused o (report_at p s es))
kept_of p s es None e = are_kept p s es (allowed_from_none (net_of p) 0 (world_at p s) es e)
kept_of p s es (Some first) e = tt

-- and then the bounds are kept
pub is_kept : (p : Plan) (s : WorldStart) (es : List Event) (v : Verdict) → v ≡ verdict_of p s es → KeepsItsBounds p s es v
is_kept p s es v is = subst (λ (x : Verdict). KeepsItsBounds p s es x) (sym is) (kept_of p s es (refusal_at p s es) refl)

never_of : (p : Plan) (s : WorldStart) (es : List Event) (o : Option (ℕ × Refused)) (report : Report) → refusal_at p s es ≡ o
    → NamesNoMemory (unless_refused o report)
never_of p s es None report e = tt
never_of p s es (Some first) report e = none_wants_memory (net_of p) 0 (world_at p s) es first e

-- running out of memory is no verdict
pub is_never : (p : Plan) (s : WorldStart) (es : List Event) (v : Verdict) → v ≡ verdict_of p s es → NamesNoMemory v
is_never p s es v is = subst (λ (x : Verdict). NamesNoMemory x) (sym is)
    (never_of p s es (refusal_at p s es) (report_at p s es) refl)

-- ---- the ends of an audit

-- the first refusal gives the verdict
pub refused_is : {E : Type 0} (r : Result Verdict E) (index : ℕ) (w : Refused) (p : Plan) (s : WorldStart) (es : List Event)
    → Refuses r index w → (w ≢ OutOfMemory → refusal_at p s es ≡ Some (index, w)) → IfOk r (λ v. v ≡ verdict_of p s es)
refused_is (Ok v) index w p s es h at =
    h.1 ∙ sym (ap (λ (o : Option (ℕ × Refused)). unless_refused o (report_at p s es)) (at h.0))
refused_is (Err e) index w p s es h at = tt

-- and so does the report where there is none
pub within_is : (p : Plan) (s : WorldStart) (es : List Event) (report : Report) → refusal_at p s es ≡ None
    → report ≡ report_at p s es → verdict.Within report ≡ verdict_of p s es
within_is p s es report none is =
    ap (λ (r : Report). verdict.Within r) is
    ∙ sym (ap (λ (o : Option (ℕ × Refused)). unless_refused o (report_at p s es)) none)
