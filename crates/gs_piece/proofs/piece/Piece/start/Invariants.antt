use Rattle.std.proofs.Common.{◌≡◌, ℕ, ◌<◌, [], length, slice_index_or}
use Rattle.gs_piece.proofs.piece.Piece.start.Given as goal

abbrev pub invariant-loop : goal.invariant-loop
invariant-loop l = record {
  count : length l.rows.items ≡ l.counter;
  each : (k : ℕ) → k < l.counter → length (slice_index_or l.rows.items k []) ≡ l.count;
}
