use Rattle.gs_order.proofs.External.{events_are_ordered}
use Rattle.gs_order.proofs.Running.{scripts_are_ordered}
use Rattle.gs_order.proofs.laws.commit_waits_order_events.Goals as goal

pub returns-clause-runs : goal.returns-clause-runs
returns-clause-runs c = events_are_ordered

pub returns-clause-scripts : goal.returns-clause-scripts
returns-clause-scripts c = scripts_are_ordered
