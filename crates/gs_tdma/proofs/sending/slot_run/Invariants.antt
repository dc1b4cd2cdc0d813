use Rattle.std.proofs.Common.{◌≡◌, ◌-◌}
use Rattle.gs_plan.specs.Plans.{graph_of}
use Rattle.gs_run.specs.Nets.{net_of}
use Rattle.gs_rows.specs.Row.{rows_of_script, zeros_of}
use Rattle.gs_tdma.specs.inside.Kept.{AreSent}
use Rattle.gs_tdma.proofs.sending.slot_run.Given as goal

abbrev pub invariant-loop-sent : goal.invariant-loop-sent
invariant-loop-sent l = record {
  plan : l.rows.plan ≡ l.fn.plan;
  said : l.rows.said ≡ l.fn.script;
  zeros : l.rows.l0s ≡ zeros_of (net_of l.fn.plan);
  sent : AreSent l.slots (rows_of_script l.fn.plan l.fn.script (zeros_of (net_of l.fn.plan))) (graph_of l.fn.plan).nodes l.rows.quanta
      l.sent.items;
}

abbrev pub decreases-loop-sent : goal.decreases-loop-sent
decreases-loop-sent l = l.rows.said.quanta - l.rows.quanta
