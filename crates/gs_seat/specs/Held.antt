-- What is in transit to a node while windows are played and what was sent in them is handed over.
use Rattle.std.specs.Prelude.{◌≡◌, ◌==◌, ◌+◌, ◌<◌, ◌≤◌, ℕ, suc, max, if◌then◌else◌, List, [], ◌∷◌, None}
use Rattle.gs_run.specs.Net.{Net, Adjacent}
use Rattle.gs_run.specs.World.{Sent}
use Rattle.gs_calendar.specs.Calendar.{sent_at}
use Rattle.gs_calendar.specs.Course.{Course}
use Rattle.gs_calendar.specs.Due.{Key}
use Rattle.gs_calendar.specs.Transits.{Has, AreInOrder, InTransit}
use Rattle.gs_seat.specs.Worlds.{WasSent}

-- In transit to v, in order: of what each node x sent by quantum `by x`, that which is due after quantum t.
pub record IsHeld (net : Net) (c : Course) (v : ℕ) (by : ℕ → ℕ) (t : ℕ) (ks : List Key) : Type 0 where
  pub order : AreInOrder ks
  pub only : (k : Key) → Has k ks → InTransit net c v (by k.from) t k
  pub all : (k : Key) → InTransit net c v (by k.from) t k → Has k ks

-- the same for all nodes but x, which has handed over what it sent by quantum q
abbrev pub handed : (ℕ → ℕ) → ℕ → ℕ → ℕ → ℕ
handed by x q = λ y. if y == x then q else by y

-- A window that begins at the end of quantum m can last to the end of quantum t: it has at most 64 quanta, and nothing
-- that is sent in it is due in it.
pub record IsWindow (net : Net) (m t : ℕ) : Type 0 where
  pub few : t ≤ m + 64
  pub short : (v w : ℕ) → Adjacent net v w → t ≤ m + max 1 (net.delay_min v w)

-- v sends nothing after quantum a and before quantum b
abbrev pub SendsNone : Net → Course → ℕ → ℕ → ℕ → Type 0
SendsNone net c v a b = (q : ℕ) → a < q → q < b → sent_at net c v q ≡ None

-- of what v sends after quantum m and by quantum t this is the first
pub record IsNext (net : Net) (c : Course) (v m t : ℕ) (x : Sent) : Type 0 where
  pub after : m < x.quantum
  pub none : SendsNone net c v m x.quantum
  pub was : WasSent net c v t x

-- These are all that v sends after quantum m and by quantum t, in turn.
abbrev pub AreSentIn : Net → Course → ℕ → ℕ → ℕ → List Sent → Type 0
AreSentIn net c v m t [] = SendsNone net c v m (suc t)
AreSentIn net c v m t (x ∷ xs) = IsNext net c v m t x × AreSentIn net c v x.quantum t xs
