use Rattle.std.proofs.Common.{ℕ, ◌<◌, ◌≤◌, length, slice_index_or}
use Rattle.gs_run.specs.Net.{Net, neighbour, neighbours}
use Rattle.gs_calendar.specs.Calendar.{heard_at}
use Rattle.gs_calendar.specs.Course.{Course}
use Rattle.gs_piece.specs.Pieces.{IsPiece}
use Rattle.gs_piece.specs.declared.piece.Piece.{Piece}
use Rattle.gs_play.proofs.staleness.safe_until.Given as goal

abbrev pub invariant-loop-i : goal.invariant-loop-i
invariant-loop-i l = (k : ℕ) (d : Piece) → k < l.i → (net : Net) (c : Course) (by : ℕ → ℕ → ℕ) (a b m t v x : ℕ) → IsPiece net c by a b m t (slice_index_or l.pieces k d)
    → a ≤ v → v < b → x < length (neighbours net v) → l.oldest ≤ (heard_at net c (neighbour net v x) v t).quantum
