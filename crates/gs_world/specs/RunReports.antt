-- The report of a run, and the bounds of its numbers.
use Rattle.std.specs.Prelude.{List, ℕ, ◌<◌, ◌≤◌, length, slice_index_or}
use Rattle.gs_topo.specs.Graph.{Graph}
use Rattle.gs_planfile.specs.declared.text.PlanText.{PlanText}
use Rattle.gs_core.specs.declared.event.Event.{Event}
use Rattle.gs_level.specs.Reports.{report_of}
use Rattle.gs_level.specs.declared.report.Report.{Report}
use Rattle.gs_run.specs.Net.{Net}
use Rattle.gs_run.specs.World.{World, world_at_start}
use Rattle.gs_run.specs.RunRows.{rows_of, fast_of}
use Rattle.gs_plan.specs.Bounds.{global_in, level_in, local_in}
use Rattle.gs_plan.specs.Plans.{text_of, graph_of}
use Rattle.gs_plan.specs.declared.plan.Plan.{Plan}
use Rattle.gs_level.specs.declared.peak.Peak.{Peak}
use Rattle.gs_run.specs.Nets.{net_of}
use Rattle.gs_run.specs.Run.{Allowed}

-- the report of these events
abbrev pub report_in : PlanText → Graph → Net → World → List Event → Report
report_in t g net w es = report_of t g (rows_of net w es) (fast_of net w es)

-- No number of a report is above its bound.
pub record IsWithinBounds (t : PlanText) (g : Graph) (report : Report) : Type 0 where
  pub global : report.global ≤ global_in t g
  pub near : (s : ℕ) → report.near ≤ local_in t g s
  pub levels : (s : ℕ) (d : Peak) → s < length report.levels → (slice_index_or report.levels s d).value ≤ level_in t g s

-- Every run from equal clocks whose events are all allowed has a report within the bounds of its plan.
abbrev pub ReportsKeepBounds : Type 0
ReportsKeepBounds = (p : Plan) (hw : List ℕ) (l0 : ℕ) (es : List Event)
    → Allowed (net_of p) (world_at_start (net_of p) hw l0) es
    → IsWithinBounds (text_of p) (graph_of p)
    (report_in (text_of p) (graph_of p) (net_of p) (world_at_start (net_of p) hw l0) es)
