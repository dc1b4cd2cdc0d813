use Rattle.std.proofs.lemmas.Result.{on_ok_weaker}
use Rattle.gs_piece.proofs.piece.Piece.take_over.Goals as goal

pub returns : goal.returns
returns c = λ by a b m t end window low high sent is.
    on_ok_weaker c.take_over.result (λ nodes. record { nodes = nodes; clocks = is.clocks; rows = is.rows; row = is.row; fasts = is.fasts })
    (c.take_over.ensures by a b m t end window low high sent is.nodes)
