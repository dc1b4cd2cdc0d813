-- Which piece has a node, and what is stale.
use Rattle.std.proofs.Common.{◌≡◌, ℕ, zero, suc, ◌+◌, ◌*◌, ◌<◌, ◌≤◌, arith, ap, sym, ◌∙◌, subst, inl, inr, List, [], ◌∷◌, length, Some, None, is_some, false}
use Rattle.std.proofs.lemmas.Bool.{cases_lt}
use Rattle.std.proofs.Common.{get_or}
use Rattle.std.proofs.lemmas.List.FromFn.{get_or-range_with_len, length-range_with_len}
use Rattle.gs_topo.proofs.Nearer.{position_at, position_nowhere}
use Rattle.std.proofs.Common.{Option}
use Rattle.std.proofs.lemmas.Bool.{leb-false}
use Rattle.gs_run.proofs.Refusals.{position-None}
use Rattle.gs_calendar.specs.Calendar.{heard_at, stale_at}
use Rattle.gs_seat.specs.inside.Freshness.{AreFresh}
use Rattle.gs_seat.proofs.Aging.{breach_stands}
use Rattle.gs_calendar.specs.Breach.{Breach}
use Rattle.gs_calendar.specs.Stops.{StopsAt}
use Rattle.gs_calendar.specs.declared.stop.PlayStop.{PlayStop}
use Rattle.gs_calendar.specs.declared.stop.PlayStop.TheVariants.{OutOfMemory, Stale}
use Rattle.gs_run.specs.Net.{Net, neighbour, neighbours}
use Rattle.gs_calendar.specs.Events.{nodes_of}
use Rattle.gs_calendar.specs.Stale.{breach_among, breach_at, breach_over, breach_upto, first_stale}
use Rattle.gs_calendar.specs.Course.{Course}
use Rattle.gs_piece.specs.declared.piece.Piece.{Piece}

-- the piece of this number has node v
pub record IsIn (size n v k : ℕ) : Type 0 where
  pub few : k < n
  pub low : k * size ≤ v
  pub high : v < k * size + size

pub piece_at : (size n v : ℕ) → v < n * size → (k : ℕ) × IsIn size n v k
piece_at size zero v h = absurd (let none : zero * size ≡ 0 = omega arith in omega (arith, h, none))
piece_at size (suc n) v h = elim (cases_lt v (n * size)) [
  | inl less ↦ (let at = piece_at size n v less in let few = at.1.few in (at.0, record { few = omega (arith, few); low = at.1.low; high = at.1.high }))
  | inr more ↦ (let one : suc n * size ≡ n * size + size = add_mul n size in (n, record { few = omega arith; low = more; high = omega (arith, h, one) }))
] where
  add_mul : (n size : ℕ) → suc n * size ≡ n * size + size
  add_mul n size = omega arith

-- any piece of some
pub some_piece : (ps : List Piece) → 0 < length ps → Piece
some_piece [] h = absurd (omega (arith, h))
some_piece (p ∷ ps) h = p

-- the breach of a quantum is at the first node that is stale
pub breach_first : (net : Net) (c : Course) (t v i : ℕ) → v < net.nodes → ((x : ℕ) → x < v → first_stale net c t x ≡ None) → first_stale net c t v ≡ Some i
    → breach_at net c t ≡ Some (record { quantum = t; from = neighbour net v i; to = v })
breach_first net c t v i hv none stale =
    let node : (k : ℕ) → k < net.nodes → get_or (nodes_of net) k 0 ≡ k = λ k h. get_or-range_with_len 0 net.nodes k 0 h ∙ omega arith in
    ap (breach_among net c t) (position_at (λ x. is_some (first_stale net c t x)) (nodes_of net) v 0 (rw (length-range_with_len 0 net.nodes) hv)
    (λ k less. ap (λ x. is_some (first_stale net c t x)) (node k (omega (arith, less, hv))) ∙ ap is_some (none k less))
    (ap (λ x. is_some (first_stale net c t x)) (node v hv) ∙ ap is_some stale))
    ∙ ap (breach_over net t v) stale

pub breach_none : (net : Net) (c : Course) (t : ℕ) → ((x : ℕ) → x < net.nodes → first_stale net c t x ≡ None) → breach_at net c t ≡ None
breach_none net c t none =
    ap (breach_among net c t) (position_nowhere (λ x. is_some (first_stale net c t x)) (nodes_of net) 0 (λ k h.
    let inside : k < net.nodes = rw (length-range_with_len 0 net.nodes) at h in
    ap (λ x. is_some (first_stale net c t x)) (get_or-range_with_len 0 net.nodes k 0 inside ∙ omega arith) ∙ ap is_some (none k inside)))

pub stops_there : (o : Option Breach) (q from to : ℕ) (stop : PlayStop) → stop ≡ Stale q from to → o ≡ Some (record { quantum = q; from = from; to = to }) → StopsAt o stop
stops_there o q from to stop e at = subst (StopsAt o) (sym e) at

-- where nothing is stale in the next quantum, all is fresh until then
pub fresh_next_one : (net : Net) (c : Course) (t : ℕ) → ((x : ℕ) → x < net.nodes → first_stale net c (suc t) x ≡ None) → AreFresh net c t (suc t)
fresh_next_one net c t none v i hv hi =
    let not : stale_at net c (neighbour net v i) v (suc t) ≡ false = position-None (λ x. stale_at net c x v (suc t)) (neighbours net v) (none v hv) i 0 hi in
    let more = leb-false ((heard_at net c (neighbour net v i) v t).quantum + net.age) t not in
    omega (arith, more)

-- a stop at the breach of the next quantum is one at the first of all
pub stops_first : (net : Net) (c : Course) (t u : ℕ) (stop : PlayStop) → breach_upto net c t ≡ None → suc t ≤ u → StopsAt (breach_at net c (suc t)) stop → StopsAt (breach_upto net c u) stop
stops_first net c t u (Stale q from to) none le at = breach_stands net c t u (record { quantum = q; from = from; to = to }) none at le
stops_first net c t u OutOfMemory none le at = tt
