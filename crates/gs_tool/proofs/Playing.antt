-- What playing a script to its end answers.
use Rattle.std.proofs.Common.{◌≡◌, ◌≢◌, ℕ, List, None, refl}
use Rattle.gs_plan.specs.Plans.{text_of, graph_of}
use Rattle.gs_plan.specs.declared.plan.Plan.{Plan}
use Rattle.gs_level.specs.ReportText.{report_text}
use Rattle.gs_level.specs.declared.report.Report.{Report}
use Rattle.gs_script.specs.Script.{Said}
use Rattle.gs_calendar.specs.Scripts.{breach_of_script}
use Rattle.gs_play.specs.Scripts.{report_of_script}
use Rattle.gs_calendar.specs.Stops.{StopsAt}
use Rattle.gs_calendar.specs.StopTexts.{stop_text}
use Rattle.gs_calendar.specs.declared.stop.PlayStop.{PlayStop}
use Rattle.gs_calendar.specs.declared.stop.PlayStop.TheVariants as play_stop
use Rattle.gs_cli.specs.Answers.{Answer, line}
use Rattle.gs_tool.specs.Runs.{IsTold, played}
use Rattle.gs_cli.specs.declared.status.Status.TheVariants as status

-- what is told of a script without a breach
pub told_of : (tells : Plan → Said → List ℕ) (plan : Plan) (said : Said) (answer : Answer) → breach_of_script plan said ≡ None
    → answer ≡ record { status = status.Done; text = tells plan said } → IsTold tells plan said answer
told_of tells plan said answer none tells_it = rw none tells_it

-- the report of a script without a breach
pub reported_by : (plan : Plan) (said : Said) (report : Report) (answer : Answer)
    → breach_of_script plan said ≡ None → report ≡ report_of_script plan said
    → answer ≡ record { status = status.Done; text = report_text (text_of plan) (graph_of plan) report }
    → IsTold played plan said answer
reported_by plan said report answer none is reports = told_of played plan said answer none (rw is at reports)

-- the line of a stop that names a breach
pub stopped_by : (tells : Plan → Said → List ℕ) (plan : Plan) (said : Said) (stop : PlayStop) (answer : Answer)
    → StopsAt (breach_of_script plan said) stop → stop ≢ play_stop.OutOfMemory
    → answer ≡ line status.Breach (stop_text stop) → IsTold tells plan said answer
stopped_by tells plan said (play_stop.Stale quantum from to) answer is other says = rw is says
stopped_by tells plan said play_stop.OutOfMemory answer is other says = absurd (other refl)

pub ruleset playing = (reported_by, stopped_by)
