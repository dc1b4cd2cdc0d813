use Rattle.gs_piece.proofs.piece.Piece.oldest.Goals as goal

pub returns : goal.returns
returns c = λ net course by a b m t v i is low high hi. c.oldest.ensures net course by a b m t v i is.nodes low high hi
