use Rattle.std.proofs.Common.{arith, length, ◌<◌}
use Rattle.gs_lookout.proofs.Growing.{within_global}
use Rattle.gs_lookout.proofs.apart.Ends.are_at_most.Goals as goal

pub returns : goal.returns
returns c = λ same.
    let behind = c.if-self-clocks.false in
    let ahead = c.if-self-clocks-2.false in
    within_global c.args.clocks.now c.args.self.now.behind c.args.self.now.ahead c.saturating_sub.result c.args.self.now.most
    (omega (arith, behind)) (omega (arith, ahead)) c.saturating_sub.ensures same
