use Rattle.std.proofs.Common.{◌+◌, sym, subst}
use Rattle.gs_seat.specs.Seats.{IsSeatAt}
use Rattle.gs_piece.proofs.nodes.Nodes.sent.Goals as goal

pub returns : goal.returns
returns c = λ net course by a b m t h is.
    let i = c.args.i in
    c.sent.ensures net course (a + i) (by (a + i)) m t
    (subst (IsSeatAt net course (a + i) (by (a + i)) m t) (sym c.index.ensures) (is.seat i c.index.result.now h))
