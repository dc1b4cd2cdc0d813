use Rattle.std.proofs.Common.{◌≡◌, ℕ, suc, ◌<◌, None, slice_index_or}
use Rattle.gs_run.specs.Nets.{net_of}
use Rattle.gs_calendar.specs.Course.{Course}
use Rattle.gs_calendar.specs.Stale.{first_stale}
use Rattle.gs_seat.specs.Seats.{IsSeatAt}
use Rattle.gs_seat.specs.declared.seat.Seat.{Seat}
use Rattle.gs_piece.proofs.nodes.Nodes.first_stale.Given as goal

abbrev pub invariant-loop-i : goal.invariant-loop-i
invariant-loop-i l = (k : ℕ) (d : Seat) → k < l.i → (c : Course) (v : ℕ) (by : ℕ → ℕ) (m : ℕ) → v < (net_of l.plan).nodes
    → IsSeatAt (net_of l.plan) c v by m l.t (slice_index_or l.self.seats.items k d) → first_stale (net_of l.plan) c (suc l.t) v ≡ None
