use Rattle.gs_trace.specs.Nodes.{node_format}
use Rattle.gs_trace.proofs.EventsInTurn.{events-few}
use Rattle.gs_trace.proofs.node_scan.NodeScan.bytes_left.Goals as goal

pub returns : goal.returns
returns c = rw (← c.self.view_is) (events-few node_format 0 c.self.inside.left.now)
