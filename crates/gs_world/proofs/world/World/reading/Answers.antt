use Rattle.std.proofs.Common.{ap, arith, sym}
use Rattle.gs_run.specs.World.{Member}
use Rattle.gs_world.proofs.Placing.{reads, seats_of}
use Rattle.gs_world.proofs.world.World.reading.Goals as goal

pub index-requires : goal.index-requires
index-requires c =
    let room = seats_of c.self.inside c.args.self.now c.self.invariant c.self.view_is in omega (arith, room)

pub returns-clause-value : goal.returns-clause-value
returns-clause-value c =
    ap (λ (m : Member). m.reading)
    (sym (reads c.self.inside c.args.self.now c.args.v c.index.result.now c.self.invariant c.self.view_is c.requires c.index.ensures).member)

pub returns-clause-below : goal.returns-clause-below
returns-clause-below c =
    (reads c.self.inside c.args.self.now c.args.v c.index.result.now c.self.invariant c.self.view_is c.requires c.index.ensures).known.short.reading
