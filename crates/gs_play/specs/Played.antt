-- The report of a script's events.
use Rattle.gs_units.specs.declared.rate.Rate.{Rate}
use Rattle.gs_topo.specs.Graph.{Graph}
use Rattle.gs_planfile.specs.declared.text.PlanText.{PlanText}
use Rattle.gs_level.specs.declared.report.Report.{Report}
use Rattle.gs_run.specs.Nets.{net_in}
use Rattle.gs_world.specs.RunReports.{report_in}
use Rattle.gs_calendar.specs.Scripts.{start_of}
use Rattle.gs_calendar.specs.Course.{Course}
use Rattle.gs_calendar.specs.Events.{events_of}

-- The report of a script's events.
abbrev pub played : PlanText → Graph → Rate → Course → Report
played t g rate c = report_in t g (net_in t g rate) (start_of (net_in t g rate)) (events_of (net_in t g rate) c)
