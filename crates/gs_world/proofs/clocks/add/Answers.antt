use Rattle.std.proofs.Common.{arith}
use Rattle.gs_world.proofs.Seating.{all_added}
use Rattle.gs_world.proofs.clocks.add.Goals as goal

pub returns : goal.returns
returns c =
    all_added c.args.numbers.now c.loop-i.numbers c.args.incs.now c.requires.count c.loop-i.invariant.count
    (λ k d h. c.loop-i.invariant.done k d (omega arith))
