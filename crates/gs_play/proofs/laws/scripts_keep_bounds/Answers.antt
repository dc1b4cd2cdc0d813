use Rattle.gs_play.proofs.Keeping.{scripts_keep}
use Rattle.gs_play.proofs.laws.scripts_keep_bounds.Goals as goal

pub returns : goal.returns
returns c = scripts_keep
