use Rattle.gs_skew.proofs.Greatest.{potentials_are}
use Rattle.gs_skew.proofs.laws.potentials_are_skews.Goals as goal

pub returns : goal.returns
returns c = potentials_are
