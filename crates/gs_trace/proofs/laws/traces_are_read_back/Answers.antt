use Rattle.gs_trace.proofs.NodeTraces.{faultless-is_node, node-is_read_back}
use Rattle.gs_trace.proofs.WorldTraces.{faultless-is_world, world-is_read_back}
use Rattle.gs_trace.proofs.laws.traces_are_read_back.Goals as goal

pub returns-clause-world : goal.returns-clause-world
returns-clause-world c = world-is_read_back

pub returns-clause-faultless_world : goal.returns-clause-faultless_world
returns-clause-faultless_world c = faultless-is_world

pub returns-clause-node : goal.returns-clause-node
returns-clause-node c = node-is_read_back

pub returns-clause-faultless_node : goal.returns-clause-faultless_node
returns-clause-faultless_node c = faultless-is_node
