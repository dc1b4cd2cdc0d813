use Rattle.gs_plan.specs.Plans.{graph_of}
use Rattle.gs_plan.proofs.Weights.{graph_is}
use Rattle.gs_level.proofs.tally.Tally.add.Goals as goal

pub near_seen-near-requires-clause-graph : goal.near_seen-near-requires-clause-graph
near_seen-near-requires-clause-graph c = rw c.topo.ensures (graph_is c.args.plan.now)
