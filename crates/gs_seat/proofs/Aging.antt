-- What was heard stays fresh for a while: no quantum is a breach up to the age of the oldest.
use Rattle.std.proofs.Common.{◌≡◌, ℕ, zero, suc, ◌+◌, ◌-◌, ◌<◌, ◌≤◌, ◌⊎◌, inl, inr, arith, ap, refl, ◌∙◌, subst, List, [], ◌∷◌, length, Some, None, is_some, Bool, true, false, cond, nat_lt, get_or}
use Rattle.std.specs.List.{AllByRecursion}
use Rattle.std.proofs.lemmas.Bool.{cases_lt, lt-leb, ltb-true}
use Rattle.std.proofs.lemmas.List.FromFn.{length-range_with_len, get_or-range_with_len}
use Rattle.gs_units.proofs.FirstFault.{first_is, later_is, none_of}
use Rattle.gs_topo.proofs.Nearer.{position_nowhere}
use Rattle.gs_run.specs.Net.{Net, neighbour, neighbours}
use Rattle.gs_calendar.specs.Breach.{Breach}
use Rattle.gs_calendar.specs.Calendar.{Newest, newer, newest, heard_at, arrivals, sent_at, stale_at}
use Rattle.gs_calendar.specs.Course.{Course}
use Rattle.gs_calendar.specs.Events.{nodes_of}
use Rattle.gs_calendar.specs.Stale.{first_stale, breach_among, breach_at, breach_upto}
use Rattle.gs_calendar.proofs.Arrivals.{IsAged, arrivals_are_aged}
use Rattle.gs_calendar.proofs.Turns.{sent_above}
use Rattle.gs_seat.specs.inside.Freshness.{AreFresh}

-- ---- what is heard was sent, and never earlier than what was heard before

-- it is nothing, or it was sent in its quantum
IsOf : Net → Course → ℕ → Newest → Type 0
IsOf net c from h = ((h.quantum ≡ 0) × (h.seq ≡ 0)) ⊎ (sent_at net c from h.quantum ≡ Some h.seq)

-- what comes next of two
record Follows (net : Net) (c : Course) (from : ℕ) (h n : Newest) : Type 0 where
  of : IsOf net c from n
  later : h.quantum ≤ n.quantum

one_follows : (net : Net) (c : Course) (from q k : ℕ) (h : Newest) (b : Bool) → nat_lt h.seq k ≡ b → IsOf net c from h → sent_at net c from q ≡ Some k
    → Follows net c from h (cond {A = Newest} b (record { quantum = q; seq = k }) h)
unfolding IsOf
one_follows net c from q k h false e of sent = record { of = of; later = omega arith }
one_follows net c from q k h true e of sent = record {
  of = inr sent;
  later = elim of [
    | inl none ↦ (let z = none.0 in omega (arith, z))
    | inr was ↦ elim (cases_lt q h.quantum) [
      | inl before ↦ (let above = sent_above net c from q h.quantum k h.seq before sent was in let less = ltb-true h.seq k e in absurd (omega (arith, above, less)))
      | inr after ↦ after
    ]
  ];
}

all_follow : (net : Net) (c : Course) (from to t : ℕ) (h : Newest) (bs : List (ℕ × ℕ)) → IsOf net c from h → AllByRecursion (IsAged net c from to t) bs → Follows net c from h (newest h bs)
all_follow net c from to t h [] of aged = record { of = of; later = omega arith }
all_follow net c from to t h (b ∷ bs) of aged =
    let first = one_follows net c from b.0 b.1 h (nat_lt h.seq b.1) refl of aged.0.sent in
    let rest = all_follow net c from to t (newer h b.0 b.1) bs first.of aged.1 in
    let low = first.later in
    let high = rest.later in
    record { of = rest.of; later = omega (arith, low, high) }

heard_is_of : (net : Net) (c : Course) (from to t : ℕ) → IsOf net c from (heard_at net c from to t)
unfolding IsOf
heard_is_of net c from to zero = inl (refl, refl)
heard_is_of net c from to (suc t) = (all_follow net c from to (suc t) (heard_at net c from to t) (arrivals net c from to (suc t)) (heard_is_of net c from to t) (arrivals_are_aged net c from to (suc t))).of

pub heard_later : (net : Net) (c : Course) (from to t : ℕ) → (heard_at net c from to t).quantum ≤ (heard_at net c from to (suc t)).quantum
heard_later net c from to t = (all_follow net c from to (suc t) (heard_at net c from to t) (arrivals net c from to (suc t)) (heard_is_of net c from to t) (arrivals_are_aged net c from to (suc t))).later

-- ---- the quantum up to which nothing is stale

pub fresh_next : (net : Net) (c : Course) (t safe : ℕ) → AreFresh net c t safe → AreFresh net c (suc t) safe
fresh_next net c t safe fresh v i hv hi =
    let now = fresh v i hv hi in
    let later = heard_later net c (neighbour net v i) v t in
    omega (arith, now, later)

-- at the start nothing was heard, and is fresh for an age
pub fresh_first : (net : Net) (c : Course) → AreFresh net c 0 net.age
fresh_first net c v i hv hi = omega arith

-- so no quantum up to it is a breach
pub fresh_is_calm : (net : Net) (c : Course) (t safe : ℕ) → AreFresh net c t safe → suc t ≤ safe → breach_at net c (suc t) ≡ None
fresh_is_calm net c t safe fresh soon =
    ap (breach_among net c (suc t)) (position_nowhere (λ v. is_some (first_stale net c (suc t) v)) (nodes_of net) 0 (λ k h.
    let inside : k < net.nodes = rw (length-range_with_len 0 net.nodes) at h in
    let node : get_or (nodes_of net) k 0 ≡ k = get_or-range_with_len 0 net.nodes k 0 inside ∙ omega arith in
    ap (λ x. is_some (first_stale net c (suc t) x)) node
    ∙ ap is_some (position_nowhere (λ x. stale_at net c x k (suc t)) (neighbours net k) 0 (λ i hi.
    let now = fresh k i inside hi in
    lt-leb ((heard_at net c (neighbour net k i) k t).quantum + net.age) t (omega (arith, now, soon))))))

pub none_next : (net : Net) (c : Course) (t : ℕ) → breach_upto net c t ≡ None → breach_at net c (suc t) ≡ None → breach_upto net c (suc t) ≡ None
none_next net c t none now = later_is (breach_upto net c t) (breach_at net c (suc t)) none ∙ now

pub none_before : (net : Net) (c : Course) (t : ℕ) → breach_upto net c (suc t) ≡ None → breach_upto net c t ≡ None
none_before net c t none = (none_of (breach_upto net c t) (breach_at net c (suc t)) none).0

-- nor is any in a window that ends by then
pub fresh_window : (net : Net) (c : Course) (m n safe : ℕ) → AreFresh net c m safe → m + n ≤ safe → breach_upto net c m ≡ None → AreFresh net c (m + n) safe × (breach_upto net c (m + n) ≡ None)
fresh_window net c m zero safe fresh le none = let e : m + zero ≡ m = omega arith in rw e (fresh, none)
fresh_window net c m (suc n) safe fresh le none =
    let e : m + suc n ≡ suc (m + n) = omega arith in
    let before = fresh_window net c m n safe fresh (omega (arith, le)) none in
    rw e (fresh_next net c (m + n) safe before.0, none_next net c (m + n) before.1 (fresh_is_calm net c (m + n) safe before.0 (omega (arith, le))))

-- ---- the first breach stands

breach_by : (net : Net) (c : Course) (t j : ℕ) (x : Breach) → breach_upto net c t ≡ Some x → breach_upto net c (t + j) ≡ Some x
breach_by net c t zero x e = let s : t + zero ≡ t = omega arith in rw s e
breach_by net c t (suc j) x e =
    let s : t + suc j ≡ suc (t + j) = omega arith in
    rw s (first_is (breach_upto net c (t + j)) (breach_at net c (suc (t + j))) x (breach_by net c t j x e))

-- a breach after none is the breach of all quanta
pub breach_stands : (net : Net) (c : Course) (t n : ℕ) (x : Breach) → breach_upto net c t ≡ None → breach_at net c (suc t) ≡ Some x → suc t ≤ n → breach_upto net c n ≡ Some x
breach_stands net c t n x none now le =
    let first : breach_upto net c (suc t) ≡ Some x = later_is (breach_upto net c t) (breach_at net c (suc t)) none ∙ now in
    let e : suc t + (n - suc t) ≡ n = omega (arith, le) in
    subst (λ (m : ℕ). breach_upto net c m ≡ Some x) e (breach_by net c (suc t) (n - suc t) x first)
