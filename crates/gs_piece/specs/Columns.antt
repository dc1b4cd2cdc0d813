-- Columns over some nodes that follow one another.
use Rattle.std.specs.Prelude.{ℕ, suc, ◌+◌, ◌<◌, List, length, slice_index_or}
use Rattle.gs_plan.specs.declared.plan.Plan.{Plan}
use Rattle.gs_script.specs.Script.{Said}
use Rattle.gs_run.specs.Net.{Net}
use Rattle.gs_run.specs.Nets.{net_of}
use Rattle.gs_run.specs.World.{clock_in}
use Rattle.gs_calendar.specs.Course.{Course, course_of}
use Rattle.gs_seat.specs.Seats.{IsSeatAt}
use Rattle.gs_seat.specs.Worlds.{Plays, world_of}
use Rattle.gs_seat.specs.declared.seat.Seat.{Seat}

-- node v's clock at the end of quantum t
abbrev pub clock_at : Net → Course → ℕ → ℕ → ℕ
clock_at net c t v = clock_in net (world_of net c t) v

-- The seats of the nodes from a on at the end of quantum t, in a window that began at the end of quantum m; quantum t + 1 is no
-- breach. In transit to node v is what each node x sent by quantum `by v x`.
abbrev pub AreSeats : Plan → Said → (ℕ → ℕ → ℕ) → ℕ → ℕ → ℕ → List Seat → Type 0
AreSeats p s by a m t seats = (i : ℕ) (d : Seat) → i < length seats → Plays p s (a + i) (suc t)
    × IsSeatAt (net_of p) (course_of s) (a + i) (by (a + i)) m t (slice_index_or seats i d)
