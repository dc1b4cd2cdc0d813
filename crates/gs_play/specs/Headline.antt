-- The headline: what every play keeps that ends with a report.
use Rattle.std.specs.Prelude.{◌≡◌, None}
use Rattle.gs_plan.specs.Plans.{text_of, graph_of}
use Rattle.gs_plan.specs.declared.plan.Plan.{Plan}
use Rattle.gs_script.specs.Script.{Said, IsScript}
use Rattle.gs_run.specs.Nets.{net_of}
use Rattle.gs_run.specs.Run.{Allowed}
use Rattle.gs_world.specs.RunReports.{IsWithinBounds}
use Rattle.gs_calendar.specs.Events.{events_of}
use Rattle.gs_calendar.specs.Scripts.{start_of, breach_of_script}
use Rattle.gs_calendar.specs.Course.{course_of}
use Rattle.gs_run.specs.Headline.{KeepsBounds}
use Rattle.gs_play.specs.Scripts.{report_of_script}

-- all events of this script are allowed, and keep the bounds of the plan
pub record PlayKeepsBounds (p : Plan) (s : Said) : Type 0 where
  pub allowed : Allowed (net_of p) (start_of (net_of p)) (events_of (net_of p) (course_of s))
  pub kept : KeepsBounds p (start_of (net_of p)) (events_of (net_of p) (course_of s))

-- Every script of a plan that has no breach keeps the bounds of the plan, and so does its report.
abbrev pub ScriptsKeepBounds : Type 0
ScriptsKeepBounds = (p : Plan) (s : Said) → s.text ≡ text_of p → IsScript s → breach_of_script p s ≡ None
    → PlayKeepsBounds p s × IsWithinBounds (text_of p) (graph_of p) (report_of_script p s)
