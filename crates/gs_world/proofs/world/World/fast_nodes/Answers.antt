use Rattle.std.proofs.Common.{◌∙◌, ap}
use Rattle.gs_run.specs.Fast.{fast_in}
use Rattle.gs_world.specs.Placed.{Placed}
use Rattle.gs_world.proofs.world.World.fast_nodes.Goals as goal

pub returns : goal.returns
returns c = c.self.invariant.fast ∙ ap (λ (p : Placed). fast_in p.world) c.self.view_is
