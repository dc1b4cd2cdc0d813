use Rattle.gs_trace.specs.Nodes as node
use Rattle.gs_trace.specs.Worlds as world
use Rattle.gs_trace.proofs.EventsInTurn.{fault-is_first}
use Rattle.gs_trace.proofs.NodeEvents.{node_is_format}
use Rattle.gs_trace.proofs.WorldEvents.{world_is_format}
use Rattle.gs_trace.proofs.laws.faults_are_first.Goals as goal

pub returns-clause-world : goal.returns-clause-world
returns-clause-world c = λ nodes. fault-is_first (world.world_format nodes) world.event_bytes (world.Fits nodes) (world_is_format nodes)

pub returns-clause-node : goal.returns-clause-node
returns-clause-node c = fault-is_first node.node_format node.event_bytes node.Fits node_is_format
