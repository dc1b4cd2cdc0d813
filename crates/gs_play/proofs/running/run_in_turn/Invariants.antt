use Rattle.std.proofs.Common.{◌≡◌, ◌+◌, ℕ, ◌<◌, ◌≤◌, length, slice_index_or}
use Rattle.gs_run.specs.Nets.{net_of}
use Rattle.gs_calendar.specs.Course.{course_of}
use Rattle.gs_piece.specs.Pieces.{HasRows, IsPieceIn}
use Rattle.gs_piece.specs.declared.piece.Piece.{Piece}
use Rattle.gs_play.proofs.running.run_in_turn.Given as goal

abbrev pub invariant-loop-i : goal.invariant-loop-i
invariant-loop-i g l = record {
  count : length l.pieces ≡ length l.fn.pieces;
  done : (k : ℕ) (d : Piece) (a b : ℕ) → k < l.i → IsPieceIn (net_of l.plan) (course_of l.script) a b l.m l.m (slice_index_or l.fn.pieces k d)
      → IsPieceIn (net_of l.plan) (course_of l.script) a b l.m (l.m + l.n) (slice_index_or l.pieces k d);
  rows : (k : ℕ) (d : Piece) (a b : ℕ) → k < l.i → IsPieceIn (net_of l.plan) (course_of l.script) a b l.m l.m (slice_index_or l.fn.pieces k d)
      → HasRows (net_of l.plan) (course_of l.script) a b l.m l.n (slice_index_or l.pieces k d);
  rest : (k : ℕ) (d : Piece) → l.i ≤ k → slice_index_or l.pieces k d ≡ slice_index_or l.fn.pieces k d;
}
