use Rattle.gs_trace.specs.Worlds.{world_format}
use Rattle.gs_trace.proofs.EventsInTurn.{events-few}
use Rattle.gs_trace.proofs.scan.WorldScan.bytes_left.Goals as goal

pub returns : goal.returns
returns c = rw (← c.self.view_is) (events-few (world_format c.self.inside.nodes) 0 c.self.inside.left.now)
