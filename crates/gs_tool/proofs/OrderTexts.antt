-- What `order` answers.
use Rattle.std.proofs.Common.{◌≡◌, ℕ, List, None}
use Rattle.gs_plan.specs.declared.plan.Plan.{Plan}
use Rattle.gs_script.specs.Script.{Said}
use Rattle.gs_calendar.specs.Scripts.{breach_of_script}
use Rattle.gs_order.specs.Orders.{order_of}
use Rattle.gs_order.specs.declared.timed.Timed.{Timed}
use Rattle.gs_cli.specs.Answers.{Answer}
use Rattle.gs_tool.specs.Orders.{order_text, ordered}
use Rattle.gs_tool.specs.Runs.{IsTold}
use Rattle.gs_cli.specs.declared.status.Status.TheVariants as status
use Rattle.gs_tool.proofs.Playing.{stopped_by, told_of}

-- the events of a script without a breach
pub ordered_by : (plan : Plan) (said : Said) (every : ℕ) (events : List Timed) (answer : Answer)
    → breach_of_script plan said ≡ None → events ≡ order_of plan said every
    → answer ≡ record { status = status.Done; text = order_text plan said events } → IsTold (ordered every) plan said answer
ordered_by plan said every events answer none is tells = told_of (ordered every) plan said answer none (rw is at tells)

pub ruleset ordering = (ordered_by, stopped_by)
