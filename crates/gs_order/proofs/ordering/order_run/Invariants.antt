use Rattle.std.proofs.Common.{◌≡◌, ℕ, ◌-◌, ◌<◌, ◌≤◌}
use Rattle.gs_plan.specs.Plans.{graph_of}
use Rattle.gs_run.specs.Nets.{net_of}
use Rattle.gs_rows.specs.Row.{clock_at, rows_of_script, zeros_of}
use Rattle.gs_order.specs.Orders.{timed_upto}
use Rattle.gs_order.specs.inside.UnderWay.{AreDone}
use Rattle.gs_order.specs.Waits.{wait_of}
use Rattle.gs_order.proofs.ordering.order_run.Given as goal

abbrev pub invariant-loop-events : goal.invariant-loop-events
invariant-loop-events l = record {
  plan : l.rows.plan ≡ l.fn.plan;
  said : l.rows.said ≡ l.fn.script;
  zeros : l.rows.l0s ≡ zeros_of (net_of l.fn.plan);
  events : l.events.items ≡ timed_upto (clock_at (rows_of_script l.fn.plan l.fn.script (zeros_of (net_of l.fn.plan)))) (wait_of l.fn.plan) (graph_of l.fn.plan).nodes l.fn.every l.rows.quanta;
  done : AreDone l.events.items l.done;
}

abbrev pub decreases-loop-events : goal.decreases-loop-events
decreases-loop-events l = l.rows.said.quanta - l.rows.quanta
