use Rattle.std.proofs.Common.{◌∙◌}
use Rattle.gs_world.proofs.Reading.{clocks_shown}
use Rattle.gs_world.proofs.world.World.clocks.Goals as goal

pub returns : goal.returns
returns c = c.deref.ensures.value ∙ clocks_shown c.self.inside c.args.self.now c.self.invariant c.self.view_is
