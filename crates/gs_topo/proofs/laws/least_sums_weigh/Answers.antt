use Rattle.gs_topo.proofs.Weighing as weighing
use Rattle.gs_topo.proofs.laws.least_sums_weigh.Goals as goal

pub returns : goal.returns
returns c = weighing.least_sums_weigh
