use Rattle.std.proofs.Common.{◌≡◌, ◌-◌, ◌*◌, ◌^◌, ◌≤◌}
use Rattle.gs_plan.specs.Plans.{graph_of}
use Rattle.gs_rows.specs.Row.{fast_upto}
use Rattle.gs_settle.specs.Plays.{first_clocks, last_upto, rows_from_gamma}
use Rattle.gs_settle.proofs.settling.settle.Given as goal

abbrev pub invariant-loop-rows : goal.invariant-loop-rows
invariant-loop-rows l = record {
  plan : l.rows.plan ≡ l.fn.plan;
  said : l.rows.said ≡ l.fn.script;
  l0s : l.rows.l0s ≡ first_clocks l.fn.gamma (graph_of l.fn.plan).nodes;
  last : l.last.items ≡ last_upto l.fn.plan (rows_from_gamma l.fn.plan l.fn.script l.fn.gamma) l.rows.quanta;
  fast : l.fast ≡ fast_upto (rows_from_gamma l.fn.plan l.fn.script l.fn.gamma) l.rows.quanta;
  small : l.fast ≤ 2 ^ 32 * l.rows.quanta;
}

abbrev pub decreases-loop-rows : goal.decreases-loop-rows
decreases-loop-rows l = l.rows.said.quanta - l.rows.quanta
