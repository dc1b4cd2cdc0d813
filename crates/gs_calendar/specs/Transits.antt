-- What is in transit to a node.
use Rattle.std.specs.Prelude.{◌≡◌, ℕ, suc, ◌<◌, ◌≤◌, ◌⊎◌, true, List, [], ◌∷◌, Some}
use Rattle.gs_run.specs.Net.{Net, neighbours}
use Rattle.gs_calendar.specs.Due.{Key}
use Rattle.gs_calendar.specs.Course.{Course}
use Rattle.gs_calendar.specs.Calendar.{sent_at, comes_at}

-- e is in the list
unfoldable pub Has : {X : Type 0} → X → List X → Type 0
Has e [] = ⊥
Has e (x ∷ xs) = (x ≡ e) ⊎ Has e xs

-- x stands before y
unfoldable pub Before : Key → Key → Type 0
Before x y = (x.due < y.due) ⊎ ((x.due ≡ y.due) × ((x.from < y.from) ⊎ ((x.from ≡ y.from) × (x.seq < y.seq))))

-- all of xs stand behind x
unfoldable pub AllBehind : Key → List Key → Type 0
AllBehind x [] = Unit {0}
AllBehind x (y ∷ ys) = Before x y × AllBehind x ys

unfoldable pub AreInOrder : List Key → Type 0
AreInOrder [] = Unit {0}
AreInOrder (x ∷ xs) = AllBehind x xs × AreInOrder xs

-- what is sent in quantum m, with the sequence k, comes in quantum t
pub record Comes (net : Net) (c : Course) (from to t m k : ℕ) : Type 0 where
  pub sent : sent_at net c from m ≡ Some k
  pub comes : comes_at c from to t m ≡ true

-- in transit to v: sent by quantum n, and due after quantum a
pub record InTransit (net : Net) (c : Course) (v n a : ℕ) (k : Key) : Type 0 where
  pub later : a < k.due
  pub among : Has k.from (neighbours net v)
  pub when : ℕ
  pub by : when ≤ n
  pub is : Comes net c k.from v k.due when k.seq

-- in order, all that was sent by quantum t and is due later, and beside it only beacons of the next quantum
pub record IsCovering (net : Net) (c : Course) (v t : ℕ) (ks : List Key) : Type 0 where
  pub order : AreInOrder ks
  pub only : (k : Key) → Has k ks → InTransit net c v (suc t) t k
  pub all : (k : Key) → InTransit net c v t t k → Has k ks
