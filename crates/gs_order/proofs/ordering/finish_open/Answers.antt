use Rattle.std.proofs.Common.{arith}
use Rattle.gs_order.specs.Waits.{wait_of}
use Rattle.gs_order.proofs.Beginning.{all_after}
use Rattle.gs_order.proofs.ordering.finish_open.Goals as goal

pub returns : goal.returns
returns c =
    all_after (wait_of c.args.plan.now) c.args.t c.args.clocks.now c.args.events.now c.loop-i.events c.args.done c.loop-i.i c.requires.done
    c.loop-i.invariant.count (let count = c.loop-i.invariant.count in omega (arith, count)) c.loop-i.invariant.early c.loop-i.invariant.past
