-- How far a script is played on its plan.
use Rattle.std.specs.Prelude.{◌≡◌, ℕ, List, None}
use Rattle.gs_plan.specs.declared.plan.Plan.{Plan}
use Rattle.gs_script.specs.Script.{Said}
use Rattle.gs_run.specs.Nets.{net_of}
use Rattle.gs_run.specs.Run.{Allowed}
use Rattle.gs_calendar.specs.Course.{course_of}
use Rattle.gs_calendar.specs.Events.{events_of}
use Rattle.gs_calendar.specs.Scripts.{breach_of_script}
use Rattle.gs_rows.specs.Row.{Row, row_at, rows_of_script, start_from}

-- the plan and the script, the clocks of the start, and the count of quanta that are played
pub record Stage : Type 0 where
  pub plan : Plan
  pub said : Said
  pub l0s : List ℕ
  pub quanta : ℕ

-- the row of the last quantum that is played
abbrev pub row_now : Stage → Row
row_now x = row_at (rows_of_script x.plan x.said x.l0s) x.quanta

-- All quanta are played, and all events were allowed.
pub record IsOver (x : Stage) : Type 0 where
  pub quanta : x.quanta ≡ x.said.quanta
  pub breach : breach_of_script x.plan x.said ≡ None
  pub allowed : Allowed (net_of x.plan) (start_from (net_of x.plan) x.l0s) (events_of (net_of x.plan) (course_of x.said))
