use Rattle.gs_topo.proofs.Distances.{are_metric}
use Rattle.gs_topo.proofs.laws.distances_are_metric.Goals as goal

pub returns : goal.returns
returns c = λ g is. are_metric g is.connected
