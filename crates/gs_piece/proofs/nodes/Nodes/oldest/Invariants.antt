use Rattle.std.proofs.Common.{ℕ, ◌<◌, ◌≤◌, length, slice_index_or}
use Rattle.gs_run.specs.Net.{Net, neighbour, neighbours}
use Rattle.gs_calendar.specs.Calendar.{heard_at}
use Rattle.gs_calendar.specs.Course.{Course}
use Rattle.gs_seat.specs.Seats.{IsSeatAt}
use Rattle.gs_seat.specs.declared.seat.Seat.{Seat}
use Rattle.gs_piece.proofs.nodes.Nodes.oldest.Given as goal

abbrev pub invariant-loop-i : goal.invariant-loop-i
invariant-loop-i l = (k : ℕ) (d : Seat) → k < l.i → (net : Net) (c : Course) (v x : ℕ) (by : ℕ → ℕ) (m t : ℕ) → v < net.nodes → x < length (neighbours net v)
    → IsSeatAt net c v by m t (slice_index_or l.self.seats.items k d) → l.oldest ≤ (heard_at net c (neighbour net v x) v t).quantum
