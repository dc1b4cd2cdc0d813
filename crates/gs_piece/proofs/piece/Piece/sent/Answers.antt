use Rattle.std.proofs.Common.{◌≡◌, ◌+◌, ◌-◌, arith, subst}
use Rattle.gs_seat.specs.Held.{AreSentIn}
use Rattle.gs_piece.proofs.piece.Piece.sent.Goals as goal

pub returns : goal.returns
returns c = λ net course by a b m t low high is.
    let first = is.nodes.first in
    let place : a + (c.args.v - c.args.self.now.nodes.first) ≡ c.args.v = omega (arith, low, first) in
    subst (λ v. AreSentIn net course v m t c.sent.result.now) place (c.sent.ensures net course by a b m t (omega (arith, place, high)) is.nodes)
