use Rattle.std.proofs.Common.{arith}
use Rattle.gs_world.proofs.Seating.{all_advanced}
use Rattle.gs_world.proofs.quantum.advance_members.Goals as goal

pub returns : goal.returns
returns c =
    all_advanced c.args.members.now c.loop-i.members c.args.incs.now c.requires.count c.loop-i.invariant.count
    (λ k d h. c.loop-i.invariant.done k d (omega arith))
