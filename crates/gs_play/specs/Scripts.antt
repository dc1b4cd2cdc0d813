-- What playing a script on its plan gives.
use Rattle.gs_plan.specs.Plans.{text_of, graph_of, rate_of}
use Rattle.gs_plan.specs.declared.plan.Plan.{Plan}
use Rattle.gs_level.specs.declared.report.Report.{Report}
use Rattle.gs_script.specs.Script.{Said}
use Rattle.gs_calendar.specs.Course.{course_of}
use Rattle.gs_play.specs.Played.{played}

-- The report of a script.
abbrev pub report_of_script : Plan → Said → Report
report_of_script p s = played (text_of p) (graph_of p) (rate_of p) (course_of s)
