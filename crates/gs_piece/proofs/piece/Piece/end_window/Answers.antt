use Rattle.gs_piece.proofs.piece.Piece.end_window.Goals as goal

pub returns : goal.returns
returns c = λ net course by a b m t all is. record {
  nodes = c.end_window.ensures net course by a b m t all is.nodes;
  clocks = is.clocks;
  rows = is.rows;
  row = is.row;
  fasts = is.fasts;
}
