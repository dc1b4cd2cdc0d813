-- What comes in a quantum: each beacon was sent before, over an edge, and is as old as its delay.
use Rattle.std.proofs.Common.{◌≡◌, ℕ, zero, suc, ◌+◌, ◌<◌, arith, refl, subst, length, Option, Some, None, Bool, true, false, nat_eq}
use Rattle.std.specs.List.{AllByRecursion}
use Rattle.std.proofs.lemmas.Bool.{eqb-true, eq-eqb, ne_eqb}
use Rattle.std.proofs.lemmas.List.Quantifiers.{position-Some}
use Rattle.gs_topo.proofs.Nearer.{position_at}
use Rattle.gs_core.specs.declared.event.Event.{Event}
use Rattle.gs_core.specs.declared.event.Event.TheVariants.{Quantum, Tick, Deliver}
use Rattle.gs_run.specs.Net.{Net, Adjacent, neighbours, neighbour, place_of}
use Rattle.gs_run.proofs.Places.{place_of_neighbour}
use Rattle.gs_calendar.specs.Course.{Course}
use Rattle.gs_calendar.specs.Calendar.{sent_at, comes_at, if_comes, coming, arrivals}
use Rattle.gs_calendar.specs.Events.{nodes_of, deliveries, deliveries_to}
use Rattle.gs_calendar.proofs.Comings.{comes_when}
use Rattle.gs_calendar.proofs.Lists.{ascend_at, ascending}
use Rattle.gs_calendar.proofs.OneSeat.{all_deliveries}
use Rattle.gs_calendar.proofs.Parts.{each_append, each_map, each_flat, each_weaker, each_kept, each_in_range}

-- ---- places

-- each neighbour has its own, as neighbours ascend
pub place_is_own : (net : Net) (v i : ℕ) → i < length (neighbours net v) → place_of net v (neighbour net v i) ≡ Some i
place_is_own net v i h = position_at (λ y. nat_eq y (neighbour net v i)) (neighbours net v) i 0 h
    (λ k less. ne_eqb (neighbour net v k) (neighbour net v i) (λ e. let up = ascend_at (neighbours net v) k i (ascending (net.adjacent v) 0 net.nodes) less h in omega (arith, up, e)))
    (eq-eqb (neighbour net v i) (neighbour net v i) refl)

pub neighbour_has_place : (net : Net) (v x : ℕ) → x < net.nodes → Adjacent net v x → (i : ℕ) × (place_of net v x ≡ Some i)
neighbour_has_place net v x inside near =
    let at = place_of_neighbour net v x inside near in
    (at.0, subst (λ (y : ℕ). place_of net v y ≡ Some at.0) at.2 (place_is_own net v at.0 at.1))

pub place_is_inside : (net : Net) (v x i : ℕ) → place_of net v x ≡ Some i → (i < length (neighbours net v)) × (neighbour net v i ≡ x)
place_is_inside net v x i e =
    let found = position-Some (λ y. nat_eq y x) (neighbours net v) i 0 e in
    (found.0, eqb-true (neighbour net v i) x found.1)

-- ---- the beacons that come

-- a beacon of this sequence was sent in this quantum, before t, and its delay ends in quantum t
pub record IsAged (net : Net) (c : Course) (from to t : ℕ) (b : ℕ × ℕ) : Type 0 where
  pub sent : sent_at net c from b.0 ≡ Some b.1
  pub before : b.0 < t
  pub age : b.0 + c.delay from to b.0 ≡ t

one_is_aged : (net : Net) (c : Course) (from to t n : ℕ) (b : Bool) (o : Option ℕ) → n < t → comes_at c from to t n ≡ b → sent_at net c from n ≡ o → AllByRecursion (IsAged net c from to t) (if_comes b n o)
one_is_aged net c from to t n b None less e sent = tt
one_is_aged net c from to t n true (Some k) less e sent = (record { sent = sent; before = less; age = comes_when c from to t n e }, tt)
one_is_aged net c from to t n false (Some k) less e sent = tt

coming_are_aged : (net : Net) (c : Course) (from to t n : ℕ) → n < t → AllByRecursion (IsAged net c from to t) (coming net c from to t n)
coming_are_aged net c from to t zero less = tt
coming_are_aged net c from to t (suc n) less =
    each_append (IsAged net c from to t) (coming net c from to t n) (if_comes (comes_at c from to t (suc n)) (suc n) (sent_at net c from (suc n)))
    (coming_are_aged net c from to t n (omega arith))
    (one_is_aged net c from to t (suc n) (comes_at c from to t (suc n)) (sent_at net c from (suc n)) less refl refl)

pub arrivals_are_aged : (net : Net) (c : Course) (from to t : ℕ) → AllByRecursion (IsAged net c from to t) (arrivals net c from to t)
arrivals_are_aged net c from to zero = tt
arrivals_are_aged net c from to (suc t) = coming_are_aged net c from to (suc t) t (omega arith)

-- ---- the deliveries of a quantum

-- such a beacon comes in quantum t, from a neighbour
pub record Arrives (net : Net) (c : Course) (t from to seq : ℕ) : Type 0 where
  pub node : to < net.nodes
  pub sender : from < net.nodes
  pub near : Adjacent net to from
  pub quantum : ℕ
  pub aged : IsAged net c from to t (quantum, seq)

abbrev pub IsArrival : Net → Course → ℕ → Event → Type 0
IsArrival net c t (Quantum incs) = ⊥
IsArrival net c t (Tick v) = ⊥
IsArrival net c t (Deliver from to seq) = Arrives net c t from to seq

deliveries_arrive : (net : Net) (c : Course) (t from to : ℕ) → to < net.nodes → from < net.nodes → Adjacent net to from → AllByRecursion (IsArrival net c t) (deliveries from to (arrivals net c from to t))
deliveries_arrive net c t from to node sender near = each_map (IsArrival net c t) (λ b. Deliver from to b.1) (arrivals net c from to t)
    (each_weaker (IsAged net c from to t) (λ b. Arrives net c t from to b.1) (λ b h. record { node = node; sender = sender; near = near; quantum = b.0; aged = h }) (arrivals net c from to t) (arrivals_are_aged net c from to t))

pub arrivals_to : (net : Net) (c : Course) (t to : ℕ) → to < net.nodes → AllByRecursion (IsArrival net c t) (deliveries_to net c t to)
arrivals_to net c t to node = each_flat (IsArrival net c t) (λ from. deliveries from to (arrivals net c from to t)) (neighbours net to)
    (each_weaker _ _ (λ from h. deliveries_arrive net c t from to node (let k = h.0 in omega (arith, k)) h.1) (neighbours net to) (each_kept _ (net.adjacent to) (nodes_of net) (each_in_range 0 net.nodes)))

pub all_arrive : (net : Net) (c : Course) (t : ℕ) → AllByRecursion (IsArrival net c t) (all_deliveries net c t)
all_arrive net c t = each_flat (IsArrival net c t) (deliveries_to net c t) (nodes_of net) (each_weaker _ _ (λ to h. arrivals_to net c t to (omega (arith, h))) (nodes_of net) (each_in_range 0 net.nodes))
