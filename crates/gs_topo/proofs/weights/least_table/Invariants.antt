use Rattle.gs_topo.specs.inside.Weighted.{AreRows}
use Rattle.gs_topo.proofs.weights.least_table.Given as goal

abbrev pub invariant-loop-source : goal.invariant-loop-source
invariant-loop-source l = AreRows (record { graph = l.topology; lengths = l.lengths }) l.source l.table.items
