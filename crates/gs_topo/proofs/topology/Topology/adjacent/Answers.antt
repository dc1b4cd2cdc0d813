use Rattle.gs_topo.proofs.Nearer.{distance_one}
use Rattle.gs_topo.proofs.topology.Topology.adjacent.Goals as goal

pub returns : goal.returns
returns c =
    rw c.distance.ensures.value (distance_one c.args.self.now c.distance.ensures.graph c.args.v c.args.w c.requires.0 c.requires.1)
