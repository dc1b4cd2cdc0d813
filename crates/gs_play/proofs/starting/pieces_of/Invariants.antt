use Rattle.std.proofs.Common.{◌≡◌, ℕ, ◌+◌, ◌*◌, ◌<◌, length, slice_index_or, min}
use Rattle.gs_run.specs.Nets.{net_of}
use Rattle.gs_calendar.specs.Course.{course_of}
use Rattle.gs_piece.specs.Pieces.{IsPieceIn}
use Rattle.gs_piece.specs.declared.piece.Piece.{Piece}
use Rattle.gs_play.proofs.starting.pieces_of.Given as goal

abbrev pub invariant-loop-i : goal.invariant-loop-i
invariant-loop-i l = record {
  count : length l.pieces.items ≡ l.i;
  each : (k : ℕ) (d : Piece) → k < l.i → IsPieceIn (net_of l.plan) (course_of l.script) (k * l.size) (min (net_of l.plan).nodes (k * l.size + l.size)) 0 0 (slice_index_or l.pieces.items k d);
}
