-- How a feed is kept. These facts are for private functions and proofs.
use Rattle.std.specs.Prelude.{◌≡◌, ℕ, suc, ◌+◌, ◌-◌, ◌<◌, ◌≤◌, ◌==◌, ◌⊎◌, List, [], ◌∷◌, ◌++◌, filter, if◌then◌else◌, length, map, slice_index_or, slice_set}
use Rattle.std.specs.BTreeSet.{insert_key}
use Rattle.std.specs.List.{flat_map, range_with_len}
use Rattle.gs_core.specs.declared.event.Event.{Event}
use Rattle.gs_core.specs.declared.event.Event.TheVariants.{Tick, Deliver}
use Rattle.gs_run.specs.Net.{Net, neighbours}
use Rattle.gs_calendar.specs.Due.{Key}
use Rattle.gs_calendar.specs.Calendar.{Turn}
use Rattle.gs_calendar.specs.Course.{Course}
use Rattle.gs_calendar.specs.Calendar.{turn, first_turn}
use Rattle.gs_calendar.specs.Events.{events_from}
use Rattle.gs_calendar.specs.Due.{due_by, due_after, key_cmp}
use Rattle.gs_calendar.specs.Transits.{Has, AreInOrder, Comes, InTransit, IsCovering}

-- what is in transit to node v
abbrev pub waiting : List (List Key) → ℕ → List Key
waiting lists v = slice_index_or lists v []

-- the turn of node v
abbrev pub turn_in : List Turn → ℕ → Turn
turn_in turns v = slice_index_or turns v first_turn

-- beacons that come to a node
abbrev pub deliver_all : ℕ → List Key → List Event
deliver_all to ks = map (λ k. Deliver k.from to k.seq) ks

-- the deliveries of quantum t that are left, from this receiver on
abbrev pub deliveries_left : ℕ → List (List Key) → ℕ → List Event
deliveries_left t lists to =
    flat_map (λ v. deliver_all v (due_by t (waiting lists v))) (range_with_len to (length lists - to))

-- the ticks of quantum t that are left, from this node on
abbrev pub ticks_left : ℕ → List Turn → ℕ → List Event
ticks_left t turns at =
    map Tick (filter (λ v. (turn_in turns v).last == t) (range_with_len at (length turns - at)))

-- the events that are left
abbrev pub left_of : Net → Course → ℕ → ℕ → ℕ → List Turn → List (List Key) → List Event
left_of net c t to at turns lists =
    (deliveries_left t lists to ++ ticks_left t turns at) ++ events_from net c t (c.quanta - t)

-- the beacon is taken that is due first, from this receiver on
pub record Takes (t to : ℕ) (old : List (List Key)) (v : ℕ) (k : Key) (new : List (List Key)) : Type 0 where
  pub from : to ≤ v
  pub inside : v < length old
  pub none : (u : ℕ) → to ≤ u → u < v → due_by t (waiting old u) ≡ []
  pub rest : List Key
  pub is : waiting old v ≡ k ∷ rest
  pub due : k.due ≤ t
  pub left : new ≡ slice_set old v rest

-- nothing is due, from this receiver on
abbrev pub NoneIsDue : ℕ → ℕ → List (List Key) → Type 0
NoneIsDue t to lists = (v : ℕ) → to ≤ v → v < length lists → due_by t (waiting lists v) ≡ []

-- each node's turn after quantum t
abbrev pub AreTurns : Net → Course → ℕ → List Turn → Type 0
AreTurns net c t turns = (v : ℕ) → v < net.nodes → turn_in turns v ≡ turn net c v t

-- all that was sent from `from` to `to` in quantum t is kept
abbrev pub HasSent : Net → Course → ℕ → ℕ → ℕ → List (List Key) → Type 0
HasSent net c t from to lists =
    (k : Key) → k.from ≡ from → Comes net c from to k.due t k.seq → Has k (waiting lists to)

-- the same for all neighbours of `from`
abbrev pub HasSentAll : Net → Course → ℕ → ℕ → List (List Key) → Type 0
HasSentAll net c t from lists =
    (to : ℕ) → to < net.nodes → Has from (neighbours net to) → HasSent net c t from to lists

-- beacons of the quantum after t may have been added, and nothing else has changed
pub record Grows (net : Net) (c : Course) (t : ℕ) (old new : List (List Key)) : Type 0 where
  pub same : length new ≡ length old
  pub order : (v : ℕ) → AreInOrder (waiting old v) → AreInOrder (waiting new v)
  pub keeps : (v : ℕ) (k : Key) → Has k (waiting old v) → Has k (waiting new v)
  pub only : (v : ℕ) (k : Key) → Has k (waiting new v) → Has k (waiting old v) ⊎ InTransit net c v (suc t) t k

-- all that was sent in quantum t is kept
abbrev pub AllSent : Net → Course → ℕ → List (List Key) → Type 0
AllSent net c t lists = (from : ℕ) → from < net.nodes → HasSentAll net c t from lists

-- a beacon that is sent in quantum t
abbrev pub key_of : Course → ℕ → ℕ → ℕ → ℕ → Key
key_of c from to t seq = record { due = t + c.delay from to t; from = from; seq = seq }

-- what is in transit once it is sent, unless it is lost
abbrev pub sent_to : Course → ℕ → ℕ → ℕ → ℕ → List (List Key) → List (List Key)
sent_to c from to t seq lists =
    if c.lost from to t then lists
    else slice_set lists to (insert_key key_cmp (waiting lists to) (key_of c from to t seq))

-- what is true of a feed in quantum t, once the receivers below `to` and the nodes below `at` are done
pub record IsFeed (net : Net) (c : Course) (t to at : ℕ) (turns next : List Turn) (lists : List (List Key)) : Type 0 where
  pub by : t ≤ c.quanta
  pub receivers : to ≤ net.nodes
  pub ticking : at ≤ net.nodes
  pub turn_count : length turns ≡ net.nodes
  pub next_count : length next ≡ net.nodes
  pub list_count : length lists ≡ net.nodes
  pub told : AreTurns net c t turns
  pub covers : (v : ℕ) → v < net.nodes → IsCovering net c v t (due_after t (waiting lists v))
  pub done : (v : ℕ) → v < to → due_by t (waiting lists v) ≡ []
