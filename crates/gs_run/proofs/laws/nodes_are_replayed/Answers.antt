use Rattle.std.proofs.Common.{slice_index}
use Rattle.gs_run.proofs.OneNode.{one_node}
use Rattle.gs_run.proofs.laws.nodes_are_replayed.Goals as goal

pub returns : goal.returns
returns c = λ net hw l0s v es numbers small hv few allowed. one_node net (slice_index hw) (slice_index l0s) v es numbers small hv few allowed
