use Rattle.gs_tdma.proofs.Guarding.{never_collide}
use Rattle.gs_tdma.proofs.laws.slots_never_collide.Goals as goal

pub returns : goal.returns
returns c = never_collide
