use Rattle.gs_node.proofs.Completing.{complete}
use Rattle.gs_node.proofs.laws.completeness.Goals as goal

pub returns : goal.returns
returns c = complete
