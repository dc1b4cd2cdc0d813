-- What is in transit to a node, in order, and what of it is due.
use Rattle.std.proofs.Common.{◌≡◌, ℕ, suc, ◌<◌, ◌≤◌, inl, inr, arith, refl, ap, sym, ◌∙◌, subst, List, [], ◌∷◌, ◌++◌, map}
use Rattle.std.specs.List.{flat_map}
use Rattle.std.proofs.lemmas.Bool.{cases_eq}
use Rattle.gs_core.specs.declared.event.Event.{Event}
use Rattle.gs_core.specs.declared.event.Event.TheVariants.{Deliver}
use Rattle.gs_run.specs.Net.{Net, neighbours}
use Rattle.gs_calendar.specs.Due.{Key}
use Rattle.gs_calendar.specs.Course.{Course}
use Rattle.gs_calendar.specs.Calendar.{coming, arrivals}
use Rattle.gs_calendar.specs.Events.{deliveries, deliveries_to}
use Rattle.gs_calendar.specs.Due.{due_by, due_after}
use Rattle.gs_calendar.specs.inside.Feeds.{deliver_all}
use Rattle.gs_calendar.specs.Transits.{Has, Before, AllBehind, AreInOrder, Comes, InTransit, IsCovering}
use Rattle.gs_calendar.proofs.Lists.{has_more, has_left, has_right, Ascend, ascending}
use Rattle.gs_calendar.proofs.Sorted.{behind_has, same_by_has, by_in_order, after_in_order, has_by, by_has, has_after, after_has}
use Rattle.gs_calendar.proofs.Comings.{comes_later, coming_has, has_coming, SeqsRise, coming_rises}

-- in order, all that is in transit and nothing else
pub record IsTransit (net : Net) (c : Course) (v n a : ℕ) (ks : List Key) : Type 0 where
  pub order : AreInOrder ks
  pub only : (k : Key) → Has k ks → InTransit net c v n a k
  pub all : (k : Key) → InTransit net c v n a k → Has k ks

-- ---- the keys of what comes in quantum t
unfoldable pub keys_from : ℕ → ℕ → List (ℕ × ℕ) → List Key
keys_from t from bs = map (λ b. record { due = t; from = from; seq = b.1 }) bs

unfoldable pub keys_all : ℕ → (ℕ → List (ℕ × ℕ)) → List ℕ → List Key
keys_all t come fs = flat_map (λ from. keys_from t from (come from)) fs

-- k is one that comes from `from` in quantum t
pub record IsFrom (t from : ℕ) (bs : List (ℕ × ℕ)) (k : Key) : Type 0 where
  pub due : k.due ≡ t
  pub sender : k.from ≡ from
  pub when : ℕ
  pub has : Has (when, k.seq) bs

from_has : (t from : ℕ) (bs : List (ℕ × ℕ)) (k : Key) → Has k (keys_from t from bs) → IsFrom t from bs k
unfolding keys_from Has
from_has t from [] k h = absurd h
from_has t from (b ∷ bs) k h = elim h [
  | inl same ↦ record { due = sym (ap (λ (x : Key). x.due) same); sender = sym (ap (λ (x : Key). x.from) same); when = b.0; has = inl (let q : b.1 ≡ k.seq = ap (λ (x : Key). x.seq) same in λ i. (b.0, q i)) }
  | inr rest ↦ let r : IsFrom t from bs k = from_has t from bs k rest in record { due = r.due; sender = r.sender; when = r.when; has = inr r.has }
]

has_from : (t from : ℕ) (bs : List (ℕ × ℕ)) (k : Key) (m : ℕ) → k.due ≡ t → k.from ≡ from → Has (m, k.seq) bs → Has k (keys_from t from bs)
unfolding keys_from Has
has_from t from [] k m a b h = absurd h
has_from t from (x ∷ bs) k m a b h = elim h [
  | inl same ↦ inl (let q : x.1 ≡ k.seq = ap (λ (y : ℕ × ℕ). y.1) same in λ i. record { due = sym a i; from = sym b i; seq = q i })
  | inr rest ↦ inr (has_from t from bs k m a b rest)
]

all_has : (t : ℕ) (come : ℕ → List (ℕ × ℕ)) (fs : List ℕ) (k : Key) → Has k (keys_all t come fs) → Has k.from fs × IsFrom t k.from (come k.from) k
unfolding keys_all Has
all_has t come [] k h = absurd h
all_has t come (from ∷ fs) k h = elim (has_more (keys_from t from (come from)) (keys_all t come fs) k h) [
  | inl i ↦
      let m : IsFrom t from (come from) k = from_has t from (come from) k i in
      (inl (sym m.sender), (let P : ℕ → Type 0 = λ x. IsFrom t x (come x) k in subst P (sym m.sender) m))
  | inr i ↦ let m = all_has t come fs k i in (inr m.0, m.1)
]

has_all : (t : ℕ) (come : ℕ → List (ℕ × ℕ)) (fs : List ℕ) (k : Key) (m : ℕ) → Has k.from fs → k.due ≡ t → Has (m, k.seq) (come k.from) → Has k (keys_all t come fs)
unfolding keys_all Has
has_all t come [] k m i a h = absurd i
has_all t come (from ∷ fs) k m i a h = elim i [
  | inl same ↦ has_left (keys_from t from (come from)) (keys_all t come fs) k (has_from t from (come from) k m a (sym same) (subst (λ (x : ℕ). Has (m, k.seq) (come x)) (sym same) h))
  | inr rest ↦ has_right (keys_from t from (come from)) (keys_all t come fs) k (has_all t come fs k m rest a h)
]

-- ---- they are in order
pub behind_all : (x : Key) (xs : List Key) → ((k : Key) → Has k xs → Before x k) → AllBehind x xs
unfolding AllBehind Has
behind_all x [] h = tt
behind_all x (y ∷ ys) h = (h y (inl refl), behind_all x ys (λ k i. h k (inr i)))

order_more : (xs ys : List Key) → AreInOrder xs → AreInOrder ys → ((k l : Key) → Has k xs → Has l ys → Before k l) → AreInOrder (xs ++ ys)
unfolding AreInOrder Has
order_more [] ys a b h = b
order_more (x ∷ xs) ys a b h = (
  behind_all x (xs ++ ys) (λ k i. elim (has_more xs ys k i) [ inl j ↦ behind_has x xs k a.0 j | inr j ↦ h x k (inl refl) j ]),
  order_more xs ys a.1 b (λ k l i j. h k l (inr i) j),
)

from_in_order : (t from : ℕ) (bs : List (ℕ × ℕ)) → SeqsRise bs → AreInOrder (keys_from t from bs)
unfolding AreInOrder keys_from SeqsRise Before
from_in_order t from [] r = tt
from_in_order t from (b ∷ bs) r = (
  behind_all (record { due = t; from = from; seq = b.1 }) (keys_from t from bs) (λ k i.
      let m : IsFrom t from bs k = from_has t from bs k i in
      inr (sym m.due, inr (sym m.sender, r.0 (m.when, k.seq) m.has))),
  from_in_order t from bs r.1,
)

all_in_order : (t : ℕ) (come : ℕ → List (ℕ × ℕ)) (fs : List ℕ) → Ascend fs → ((x : ℕ) → SeqsRise (come x)) → AreInOrder (keys_all t come fs)
unfolding AreInOrder keys_all Ascend Before
all_in_order t come [] a r = tt
all_in_order t come (from ∷ fs) a r = order_more (keys_from t from (come from)) (keys_all t come fs) (from_in_order t from (come from) (r from)) (all_in_order t come fs a.1 r)
    (λ k l i j.
    let m : IsFrom t from (come from) k = from_has t from (come from) k i in
    let n = all_has t come fs l j in
    let above : from < l.from = a.0 l.from n.0 in
    inr (m.due ∙ sym n.1.due, inl (let q = m.sender in omega arith)))

-- ---- in transit
in_later : (net : Net) (c : Course) (v n a : ℕ) (k : Key) → InTransit net c v n a k → InTransit net c v (suc n) a k
in_later net c v n a k is = record { later = is.later; among = is.among; when = is.when; by = (let le = is.by in omega arith); is = is.is }

pub transit_covers : (net : Net) (c : Course) (v t : ℕ) (ks : List Key) → IsTransit net c v t t ks → IsCovering net c v t ks
transit_covers net c v t ks is = record { order = is.order; only = λ k i. in_later net c v t t k (is.only k i); all = is.all }

-- what was sent by quantum n and is new
pub cover_full : (net : Net) (c : Course) (v t : ℕ) (ks : List Key) → IsCovering net c v t ks
    → ((k : Key) → Has k.from (neighbours net v) → Comes net c k.from v k.due (suc t) k.seq → Has k ks) → IsTransit net c v (suc t) t ks
cover_full net c v t ks is full = record {
  order = is.order;
  only = is.only;
  all = λ k it. elim (cases_eq it.when (suc t)) [
    | inl now ↦ full k it.among (let P : ℕ → Type 0 = λ m. Comes net c k.from v k.due m k.seq in subst P now it.is)
    | inr old ↦ is.all k (record { later = it.later; among = it.among; when = it.when; by = (let le = it.by in omega arith); is = it.is })
  ];
}

-- what is due in the next quantum is taken
pub transit_rest : (net : Net) (c : Course) (v n a b : ℕ) (ks : List Key) → a ≤ b → IsTransit net c v n a ks → IsTransit net c v n b (due_after b ks)
transit_rest net c v n a b ks le is = record {
  order = after_in_order b ks is.order;
  only = λ k i.
      let r = has_after b ks k is.order i in
      let it : InTransit net c v n a k = is.only k r.0 in
      record { later = r.1; among = it.among; when = it.when; by = it.by; is = it.is };
  all = λ k it. after_has b ks k (is.all k (record { later = (let l = it.later in omega arith); among = it.among; when = it.when; by = it.by; is = it.is })) it.later;
}

-- delays to a node are at least 1
abbrev pub AreSlow : Net → Course → ℕ → Type 0
AreSlow net c v = (from t : ℕ) → Has from (neighbours net v) → 1 ≤ c.delay from v t

-- what is due is what comes
pub covering_due : (net : Net) (c : Course) (v t : ℕ) (ks : List Key) → AreSlow net c v → IsCovering net c v t ks
    → due_by (suc t) ks ≡ keys_all (suc t) (λ from. arrivals net c from v (suc t)) (neighbours net v)
covering_due net c v t ks slow is =
    let come : ℕ → List (ℕ × ℕ) = λ from. coming net c from v (suc t) t in
    same_by_has (due_by (suc t) ks) (keys_all (suc t) come (neighbours net v)) (by_in_order (suc t) ks is.order)
    (all_in_order (suc t) come (neighbours net v) (ascending (net.adjacent v) 0 net.nodes) (λ x. coming_rises net c x v (suc t) t))
    (λ k i.
    let by = has_by (suc t) ks k i in
    let it : InTransit net c v (suc t) t k = is.only k by.0 in
    let now : k.due ≡ suc t = (let l = by.1 in let m = it.later in omega arith) in
    let before : it.when < k.due = comes_later net c k.from v k.due it.when k.seq (slow k.from it.when it.among) it.is in
    has_all (suc t) come (neighbours net v) k it.when it.among now
    (has_coming net c k.from v (suc t) t it.when k.seq (omega arith) (let P : ℕ → Type 0 = λ d. Comes net c k.from v d it.when k.seq in subst P now it.is)))
    (λ k i.
    let m = all_has (suc t) come (neighbours net v) k i in
    let from : IsFrom (suc t) k.from (come k.from) k = m.1 in
    let now : k.due ≡ suc t = from.due in
    let one = coming_has net c k.from v (suc t) t (from.when, k.seq) from.has in
    let le = one.0 in
    by_has (suc t) ks k is.order
    (is.all k (record { later = omega arith; among = m.0; when = from.when; by = omega arith; is = (let P : ℕ → Type 0 = λ d. Comes net c k.from v d from.when k.seq in subst P (sym now) one.1) }))
    (omega arith))

-- ---- as events
from_delivers : (to t from : ℕ) (bs : List (ℕ × ℕ)) → deliver_all to (keys_from t from bs) ≡ deliveries from to bs
unfolding keys_from
from_delivers to t from [] = refl
from_delivers to t from (b ∷ bs) = ap (λ (es : List Event). Deliver from to b.1 ∷ es) (from_delivers to t from bs)

deliver_more : (to : ℕ) (xs ys : List Key) → deliver_all to (xs ++ ys) ≡ deliver_all to xs ++ deliver_all to ys
deliver_more to [] ys = refl
deliver_more to (x ∷ xs) ys = ap (λ (es : List Event). Deliver x.from to x.seq ∷ es) (deliver_more to xs ys)

all_deliver : (to t : ℕ) (come : ℕ → List (ℕ × ℕ)) (fs : List ℕ) → deliver_all to (keys_all t come fs) ≡ flat_map (λ from. deliveries from to (come from)) fs
unfolding keys_all
all_deliver to t come [] = refl
all_deliver to t come (from ∷ fs) = deliver_more to (keys_from t from (come from)) (keys_all t come fs) ∙ rw (from_delivers to t from (come from), all_deliver to t come fs)

-- what is due in the next quantum, delivered, is what the events say, whatever of that quantum's own beacons is there
pub covering_deliveries : (net : Net) (c : Course) (v t : ℕ) (ks : List Key) → AreSlow net c v → IsCovering net c v t ks
    → deliver_all v (due_by (suc t) ks) ≡ deliveries_to net c (suc t) v
covering_deliveries net c v t ks slow is =
    ap (λ (xs : List Key). deliver_all v xs) (covering_due net c v t ks slow is)
    ∙ all_deliver v (suc t) (λ from. arrivals net c from v (suc t)) (neighbours net v)

-- all that is in transit covers
full_covers : (net : Net) (c : Course) (v t : ℕ) (ks : List Key) → IsTransit net c v (suc t) t ks → IsCovering net c v t ks
full_covers net c v t ks is = record { order = is.order; only = is.only; all = λ k it. is.all k (in_later net c v t t k it) }

-- what is due in the next quantum, delivered, is what the events say
pub next_deliveries : (net : Net) (c : Course) (v t : ℕ) (ks : List Key) → AreSlow net c v → IsTransit net c v (suc t) t ks
    → deliver_all v (due_by (suc t) ks) ≡ deliveries_to net c (suc t) v
next_deliveries net c v t ks slow is = covering_deliveries net c v t ks slow (full_covers net c v t ks is)
