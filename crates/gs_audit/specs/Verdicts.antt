-- What an audit of a world's events comes to.
use Rattle.std.specs.Prelude.{◌≡◌, ◌≢◌, ℕ, ◌+◌, List, Option, Some, None, length, ⊤}
use Rattle.gs_plan.specs.Plans.{graph_of, text_of}
use Rattle.gs_plan.specs.declared.plan.Plan.{Plan}
use Rattle.gs_core.specs.declared.event.Event.{Event}
use Rattle.gs_level.specs.declared.report.Report.{Report}
use Rattle.gs_trace.specs.declared.start.WorldStart.{WorldStart}
use Rattle.gs_run.specs.Headline.{KeepsBounds}
use Rattle.gs_run.specs.Nets.{net_of}
use Rattle.gs_run.specs.Run.{first_refused}
use Rattle.gs_run.specs.World.{World, world_at_start}
use Rattle.gs_run.specs.declared.refused.Refused.{Refused}
use Rattle.gs_run.specs.declared.refused.Refused.TheVariants.{OutOfMemory}
use Rattle.gs_world.specs.RunReports.{IsWithinBounds, report_in}
use Rattle.gs_audit.specs.declared.verdict.Verdict.{Verdict}
use Rattle.gs_audit.specs.declared.verdict.Verdict.TheVariants as verdict

-- the world that starts so
abbrev pub world_at : Plan → WorldStart → World
world_at p s = world_at_start (net_of p) s.hw s.l0

-- the report of these events from this start
abbrev pub report_at : Plan → WorldStart → List Event → Report
report_at p s es = report_in (text_of p) (graph_of p) (net_of p) (world_at p s) es

-- the first event that is refused, by its index from 0, and why
abbrev pub refusal_at : Plan → WorldStart → List Event → Option (ℕ × Refused)
refusal_at p s es = first_refused (net_of p) 0 (world_at p s) es

-- within its bounds with this report where nothing is refused, or else the first event that is
abbrev pub unless_refused : Option (ℕ × Refused) → Report → Verdict
unless_refused None report = verdict.Within report
unless_refused (Some first) report = verdict.Refused first.0 first.1

-- The verdict on these events from this start.
abbrev pub verdict_of : Plan → WorldStart → List Event → Verdict
verdict_of p s es = unless_refused (refusal_at p s es) (report_at p s es)

-- it is a report
abbrev pub IsWithin : Verdict → Type 0
IsWithin (verdict.Within report) = ⊤
IsWithin (verdict.Refused index why) = ⊥

-- What holds where it is a report: the run keeps all bounds of the plan, no number of the report is above its bound, and
-- it tells the potential of each level.
pub record AreKept (p : Plan) (s : WorldStart) (es : List Event) (report : Report) : Type 0 where
  pub run : KeepsBounds p (world_at p s) es
  pub within : IsWithinBounds (text_of p) (graph_of p) report
  pub levels : length report.levels ≡ (text_of p).levels + 1

-- the bounds of the plan are kept, where it is a report
abbrev pub KeepsItsBounds : Plan → WorldStart → List Event → Verdict → Type 0
KeepsItsBounds p s es (verdict.Within report) = AreKept p s es report
KeepsItsBounds p s es (verdict.Refused index why) = ⊤

-- it never names `OutOfMemory`
abbrev pub NamesNoMemory : Verdict → Type 0
NamesNoMemory (verdict.Within report) = ⊤
NamesNoMemory (verdict.Refused index why) = why ≢ OutOfMemory
