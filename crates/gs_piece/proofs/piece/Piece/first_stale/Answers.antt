use Rattle.gs_piece.proofs.piece.Piece.first_stale.Goals as goal

pub returns-clause-some : goal.returns-clause-some
returns-clause-some c = λ course by a b m is. c.first_stale.ensures.some course by a b m is.nodes

pub returns-clause-none : goal.returns-clause-none
returns-clause-none c = λ course by a b m is. c.first_stale.ensures.none course by a b m is.nodes
