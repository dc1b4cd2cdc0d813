-- What is kept of some nodes that follow one another.
use Rattle.std.specs.Prelude.{◌≡◌, ◌==◌, ℕ, suc, ◌+◌, ◌<◌, ◌≤◌, nat_lt, if◌then◌else◌, Bool, false, length, slice_index, slice_index_or, slice_set, [], ◌∷◌, ◌++◌}
use Rattle.gs_run.specs.Fast.{is_fast}
use Rattle.gs_run.specs.Net.{Net, neighbours}
use Rattle.gs_calendar.specs.Transits.{Has}
use Rattle.gs_seat.specs.Held.{handed}
use Rattle.gs_calendar.specs.Course.{Course}
use Rattle.gs_seat.specs.Seats.{IsSeatAt, has_sent, mode_of, step_of, wake_of}
use Rattle.gs_seat.specs.declared.seat.Seat.{Seat}
use Rattle.gs_piece.specs.declared.nodes.Nodes.{Nodes}

-- nothing that was sent in a window that began at the end of quantum m has been handed over
abbrev pub none_handed : ℕ → ℕ → ℕ → ℕ
none_handed m v x = m

-- in quantum t + 1, once the nodes before place u had their turn
abbrev pub midway : ℕ → ℕ → ℕ → ℕ
midway t u i = if nat_lt i u then suc t else t

-- what is looked at of a seat in every quantum
pub record IsSeen (s : Seat) (adds wakes : ℕ) (runs : Bool) : Type 0 where
  pub step : adds ≡ step_of s
  pub wake : wakes ≡ wake_of s
  pub fast : runs ≡ is_fast (mode_of s)

-- These are the nodes a to b - 1 of so many. Each seat is as its place asks for, and the columns tell of it.
pub record AreWith (nodes a b : ℕ) (Is : ℕ → Seat → Type 0) (x : Nodes) : Type 0 where
  pub first : x.first ≡ a
  pub inside : b ≤ nodes
  pub seats : a + length x.seats.items ≡ b
  pub steps : a + length x.steps.items ≡ b
  pub wake : a + length x.wake.items ≡ b
  pub fast : a + length x.fast.items ≡ b
  pub sends : a + length x.sends.items ≡ b
  pub seat : (i : ℕ) (d : Seat) → a + i < b → Is i (slice_index_or x.seats.items i d)
  pub seen : (i : ℕ) (d : Seat) → a + i < b
      → IsSeen (slice_index_or x.seats.items i d) (slice_index x.steps.items i) (slice_index x.wake.items i) (slice_index_or x.fast.items i false)
  pub sender : (i : ℕ) (d : Seat) → a + i < b → slice_index_or x.sends.items i false ≡ has_sent (slice_index_or x.seats.items i d)

-- These are the nodes a to b - 1, the one at place i at the end of quantum `time i`, in a window that began at the end of quantum
-- m. In transit to node v is what each node x sent by quantum `by v x`.
abbrev pub AreNodes : Net → Course → (ℕ → ℕ → ℕ) → ℕ → ℕ → ℕ → (ℕ → ℕ) → Nodes → Type 0
AreNodes net c by a b m time x = AreWith net.nodes a b (λ i s. IsSeatAt net c (a + i) (by (a + i)) m (time i) s) x

-- `to` has what `from` sent by quantum q; for the others nothing changes
abbrev pub handed_to : (ℕ → ℕ → ℕ) → ℕ → ℕ → ℕ → ℕ → ℕ → ℕ
handed_to by to from q v = if v == to then handed (by v) from q else by v

-- all that is sent by quantum t has been handed over to these nodes
abbrev pub AllHanded : Net → (ℕ → ℕ → ℕ) → ℕ → ℕ → ℕ → Type 0
AllHanded net by a b t = (v x : ℕ) → a ≤ v → v < b → Has x (neighbours net v) → by v x ≡ t

-- the seats of nodes of which those before place u began the next window, at the end of quantum t
abbrev pub Ending : Net → Course → ℕ → ℕ → ℕ → ℕ → ℕ → Seat → Type 0
Ending net c a m t u i s = IsSeatAt net c (a + i) (λ x. t) (if nat_lt i u then t else m) t s

-- these are the old nodes, but the one at a place has this seat
pub record SetsSeat (i : ℕ) (s : Seat) (old new : Nodes) : Type 0 where
  pub first : new.first ≡ old.first
  pub seats : new.seats.items ≡ slice_set old.seats.items i s
  pub steps : new.steps.items ≡ slice_set old.steps.items i (step_of s)
  pub wake : new.wake.items ≡ slice_set old.wake.items i (wake_of s)
  pub fast : new.fast.items ≡ slice_set old.fast.items i (is_fast (mode_of s))
  pub sends : new.sends.items ≡ slice_set old.sends.items i (has_sent s)

-- these are the old nodes, and one more behind them
pub record AddsSeat (s : Seat) (old new : Nodes) : Type 0 where
  pub first : new.first ≡ old.first
  pub seats : new.seats.items ≡ old.seats.items ++ s ∷ []
  pub steps : new.steps.items ≡ old.steps.items ++ step_of s ∷ []
  pub wake : new.wake.items ≡ old.wake.items ++ wake_of s ∷ []
  pub fast : new.fast.items ≡ old.fast.items ++ is_fast (mode_of s) ∷ []
  pub sends : new.sends.items ≡ old.sends.items ++ has_sent s ∷ []
