use Rattle.std.proofs.Common.{arith}
use Rattle.gs_world.proofs.Reading.{clock_shown, clock_small, clocks_count}
use Rattle.gs_world.proofs.world.World.clock.Goals as goal

pub index-requires : goal.index-requires
index-requires c =
    let count = clocks_count c.self.inside c.args.self.now c.self.invariant c.self.view_is in
    let v = c.self.inside.clocks in
    omega (arith, count, v)

pub returns-clause-value : goal.returns-clause-value
returns-clause-value c =
    clock_shown c.self.inside c.args.self.now c.args.v c.index.result.now c.self.invariant c.self.view_is c.requires
    c.index.ensures

pub returns-clause-below : goal.returns-clause-below
returns-clause-below c =
    clock_small c.self.inside c.args.self.now c.args.v c.index.result.now c.self.invariant c.self.view_is c.requires
    c.index.ensures
