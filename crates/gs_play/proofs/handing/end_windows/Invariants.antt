use Rattle.std.proofs.Common.{◌≡◌, ℕ, ◌<◌, ◌≤◌, length, slice_index_or}
use Rattle.gs_run.specs.Net.{Net}
use Rattle.gs_calendar.specs.Course.{Course}
use Rattle.gs_piece.specs.Nodes.{AllHanded}
use Rattle.gs_piece.specs.Pieces.{IsPiece, IsPieceIn}
use Rattle.gs_piece.specs.declared.piece.Piece.{Piece}
use Rattle.gs_play.proofs.handing.end_windows.Given as goal

abbrev pub invariant-loop-i : goal.invariant-loop-i
invariant-loop-i l = record {
  count : length l.pieces ≡ length l.fn.pieces;
  done : (k : ℕ) (d : Piece) (net : Net) (c : Course) (by : ℕ → ℕ → ℕ) (a b m t : ℕ) → k < l.i → AllHanded net by a b t
      → IsPiece net c by a b m t (slice_index_or l.fn.pieces k d) → IsPieceIn net c a b t t (slice_index_or l.pieces k d);
  rest : (k : ℕ) (d : Piece) → l.i ≤ k → slice_index_or l.pieces k d ≡ slice_index_or l.fn.pieces k d;
}
