use Rattle.std.proofs.Common.{◌≡◌, ℕ, suc, ◌+◌, ◌*◌, ◌^◌, ◌<◌, ◌≤◌, min, map}
use Rattle.std.specs.List.{range_with_len}
use Rattle.gs_run.specs.Net.{Net}
use Rattle.gs_calendar.specs.Course.{Course}
use Rattle.gs_piece.specs.Columns.{clock_at}
use Rattle.gs_piece.specs.Pieces.{fast_among}
use Rattle.gs_play.specs.inside.Pieces.{HaveRows}
use Rattle.gs_play.proofs.gathering.gather.Given as goal

abbrev pub invariant-loop-i : goal.invariant-loop-i
invariant-loop-i l = record {
  few : l.fast ≤ 2 ^ 32 * l.i;
  clocks : (net : Net) (c : Course) (size m n : ℕ) → l.j < n → HaveRows net c size m n l.pieces
      → l.row.items ≡ map (clock_at net c (suc (m + l.j))) (range_with_len 0 (min net.nodes (l.i * size)));
  fast : (net : Net) (c : Course) (size m n : ℕ) → l.j < n → HaveRows net c size m n l.pieces
      → l.fast ≡ fast_among net c 0 (min net.nodes (l.i * size)) (m + l.j);
}
