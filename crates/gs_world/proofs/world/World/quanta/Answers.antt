use Rattle.std.proofs.Common.{arith}
use Rattle.gs_world.proofs.Placing.{known_inside}
use Rattle.gs_world.proofs.world.World.quanta.Goals as goal

pub returns-clause-few : goal.returns-clause-few
returns-clause-few c = let few = (known_inside c.self.inside c.self.invariant).few in omega (arith, few)
