-- A script without a breach keeps the bounds of its plan, and so does its report.
use Rattle.std.proofs.Common.{List, map}
use Rattle.gs_core.specs.declared.event.Event.{Event}
use Rattle.gs_run.specs.Net.{Net}
use Rattle.gs_run.specs.Nets.{net_of}
use Rattle.gs_run.specs.Run.{Allowed}
use Rattle.gs_run.proofs.PlanBounds.{plans_keep_bounds}
use Rattle.gs_run.proofs.PlanNumbers.{plan_has_numbers}
use Rattle.gs_calendar.specs.Course.{Course, course_of}
use Rattle.gs_calendar.specs.Events.{events_of, nodes_of}
use Rattle.gs_play.specs.Headline.{ScriptsKeepBounds}
use Rattle.gs_calendar.specs.Scripts.{start_of}
use Rattle.gs_world.proofs.Reporting.{reports_keep_bounds}
use Rattle.gs_calendar.proofs.Breaches.{unbreached_script_is_allowed}
use Rattle.gs_calendar.proofs.Fitting.{fits}

-- every script of a plan that has no breach
pub scripts_keep : ScriptsKeepBounds
scripts_keep p s same is none =
    let net : Net = net_of p in
    let c : Course = course_of s in
    let es : List Event = events_of net c in
    let allowed : Allowed net (start_of net) es =
    unbreached_script_is_allowed net c (plan_has_numbers p) (fits p s same is) none in (
      record { allowed = allowed; kept = plans_keep_bounds p (map (λ v. 0) (nodes_of net)) 0 es allowed },
      reports_keep_bounds p (map (λ v. 0) (nodes_of net)) 0 es allowed,
    )
