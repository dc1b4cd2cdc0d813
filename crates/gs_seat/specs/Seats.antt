-- What a seat stands for: one node of a play, alone.
use Rattle.std.specs.Prelude.{◌==◌, ℕ, ◌+◌, ◌≤◌, Bool, length, min, not}
use Rattle.std.specs.Vec.{vec_capacity}
use Rattle.gs_units.specs.declared.rate.Mode.{Mode}
use Rattle.gs_run.specs.Net.{Net}
use Rattle.gs_calendar.specs.Course.{Course}
use Rattle.gs_seat.specs.Alone.{AreCarried}
use Rattle.gs_seat.specs.Held.{IsHeld, AreSentIn}
use Rattle.gs_seat.specs.Letters.{keys, first_due}
use Rattle.gs_seat.specs.Sleepers.{IsAsleep}
use Rattle.gs_seat.specs.Worlds.{world_of}
use Rattle.gs_seat.specs.Ways.{HoldsWays}
use Rattle.gs_seat.specs.declared.seat.Seat.{Seat}

-- This seat stands for node v at the end of quantum t, in a window that began at the end of quantum m. In transit to it is
-- what each node x sent by quantum `by x`, and it keeps what v sent in the window.
pub record IsSeatAt (net : Net) (c : Course) (v : ℕ) (by : ℕ → ℕ) (m t : ℕ) (s : Seat) : Type 0 where
  pub node : IsAsleep net c v t s.node
  pub held : IsHeld net c v by t (keys s.waiting)
  pub carried : AreCarried net (world_of net c t) v s.waiting
  pub ways : HoldsWays net c v by s.ways
  pub sent : AreSentIn net c v m t s.sent.items
  pub within : (x : ℕ) → (m ≤ by x) × (by x ≤ t)
  pub room : 64 ≤ vec_capacity s.sent

-- the same while nothing that was sent in the window has been handed over
abbrev pub IsSeatIn : Net → Course → ℕ → ℕ → ℕ → Seat → Type 0
IsSeatIn net c v m t s = IsSeatAt net c v (λ x. m) m t s

-- the first quantum in which something may happen to a seat
abbrev pub wake_of : Seat → ℕ
wake_of s = min (min (s.node.ticked + s.node.gap.value) s.node.gap.until) (first_due s.node.inc.until s.waiting)

-- what its clock adds in the next quantum in the slow mode, and its mode
abbrev pub step_of : Seat → ℕ
step_of s = s.node.inc.value

abbrev pub mode_of : Seat → Mode
mode_of s = s.node.core.node.mode

-- whether it sent anything in the window
abbrev pub has_sent : Seat → Bool
has_sent s = not (length s.sent.items == 0)
