-- What the script alone decides, whatever the clocks: when each node ticks and sends, and what comes when.
use Rattle.std.specs.Prelude.{ℕ, zero, suc, ◌+◌, ◌-◌, ◌==◌, ◌&&◌, Bool, false, not, nat_le, nat_lt, if◌then◌else◌, Option, Some, None, List, [], ◌∷◌, ◌++◌}
use Rattle.gs_run.specs.Net.{Net}
use Rattle.gs_calendar.specs.Course.{Course}

-- What a script decides of a node by some quantum: its last tick, its ticks since its last beacon, and the sequence of that
-- beacon.
pub record Turn : Type 0 where
  pub last : ℕ
  pub count : ℕ
  pub seq : ℕ

-- the start counts as a tick at time 0
abbrev pub first_turn : Turn
first_turn = record { last = 0; count = 0; seq = 0 }

-- whether a tick comes at t, where this gap is asked for
abbrev pub ticks_now : ℕ → ℕ → Turn → Bool
ticks_now gap t u = nat_le gap (t - u.last)

-- whether the next tick gives a beacon
abbrev pub gives_next : ℕ → Turn → Bool
gives_next every u = nat_le every (u.count + 1)

-- after a tick at t
abbrev pub ticked_turn : ℕ → ℕ → Turn → Turn
ticked_turn every t u =
    if gives_next every u then record { last = t; count = 0; seq = u.seq + 1 }
    else record { last = t; count = u.count + 1; seq = u.seq }

-- after quantum t
abbrev pub next_turn : ℕ → ℕ → ℕ → Turn → Turn
next_turn every gap t u = if ticks_now gap t u then ticked_turn every t u else u

-- the turn of node v at the end of quantum t
abbrev pub turn : Net → Course → ℕ → ℕ → Turn
turn net c v zero = first_turn
turn net c v (suc t) = next_turn net.every (c.gap v (suc t)) (suc t) (turn net c v t)

-- whether v ticks in quantum t
abbrev pub ticks : Net → Course → ℕ → ℕ → Bool
ticks net c v zero = false
ticks net c v (suc t) = ticks_now (c.gap v (suc t)) (suc t) (turn net c v t)

-- the sequence of the beacon that a tick of this turn gives, if one comes
abbrev pub given_seq : Bool → ℕ → Turn → Option ℕ
given_seq ticking every u = if ticking && gives_next every u then Some (u.seq + 1) else None

-- the sequence of the beacon that v sends in quantum t
abbrev pub sent_at : Net → Course → ℕ → ℕ → Option ℕ
sent_at net c v zero = None
sent_at net c v (suc t) = given_seq (ticks net c v (suc t)) net.every (turn net c v t)

-- what is sent in quantum n comes in quantum t
abbrev pub comes_at : Course → ℕ → ℕ → ℕ → ℕ → Bool
comes_at c from to t n = not (c.lost from to n) && (n + c.delay from to n == t)

-- a beacon of this sequence that was sent in quantum n, if there is one and it comes
abbrev pub if_comes : Bool → ℕ → Option ℕ → List (ℕ × ℕ)
if_comes b n None = []
if_comes b n (Some k) = if b then (n, k) ∷ [] else []

-- the beacons that one node sent by quantum n and that come to another in quantum t: when each was sent, and its
-- sequence
abbrev pub coming : Net → Course → ℕ → ℕ → ℕ → ℕ → List (ℕ × ℕ)
coming net c from to t zero = []
coming net c from to t (suc n) =
    coming net c from to t n ++ if_comes (comes_at c from to t (suc n)) (suc n) (sent_at net c from (suc n))

-- those that come in quantum t; each was sent before
abbrev pub arrivals : Net → Course → ℕ → ℕ → ℕ → List (ℕ × ℕ)
arrivals net c from to zero = []
arrivals net c from to (suc t) = coming net c from to (suc t) t

-- the newest beacon that was heard over a directed edge: when it was sent, and its sequence
pub record Newest : Type 0 where
  pub quantum : ℕ
  pub seq : ℕ

-- at the start
abbrev pub none_heard : Newest
none_heard = record { quantum = 0; seq = 0 }

-- after one more beacon
abbrev pub newer : Newest → ℕ → ℕ → Newest
newer h quantum seq = if nat_lt h.seq seq then record { quantum = quantum; seq = seq } else h

-- after some more
abbrev pub newest : Newest → List (ℕ × ℕ) → Newest
newest h [] = h
newest h (b ∷ bs) = newest (newer h b.0 b.1) bs

-- the newest beacon that `to` has heard of `from` at the end of quantum t
abbrev pub heard_at : Net → Course → ℕ → ℕ → ℕ → Newest
heard_at net c from to zero = none_heard
heard_at net c from to (suc t) = newest (heard_at net c from to t) (arrivals net c from to (suc t))

-- quantum t is not allowed, for what `to` last heard of `from`
abbrev pub stale_at : Net → Course → ℕ → ℕ → ℕ → Bool
stale_at net c from to zero = false
stale_at net c from to (suc t) = nat_le ((heard_at net c from to t).quantum + net.age) t
