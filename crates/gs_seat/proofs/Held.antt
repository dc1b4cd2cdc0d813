-- What is in transit to a node through a window and its hand-over.
use Rattle.std.proofs.Common.{◌≡◌, ◌==◌, ◌&&◌, ◌||◌, ℕ, zero, suc, ◌+◌, ◌<◌, ◌≤◌, ◌⊎◌, inl, inr, arith, ap, sym, refl, ◌∙◌, subst, List, [], ◌∷◌, ◌++◌, Bool, true, false, not, nat_le, nat_lt, Some, Option}
use Rattle.std.specs.BTreeSet.{insert_key}
use Rattle.std.specs.List.{flat_map}
use Rattle.std.proofs.lemmas.Bool.{cases_eq, cases_lt, cond-true, cond-false, eq-eqb, ne_eqb, le-ltb, lt-ltb, true≢false}
use Rattle.std.proofs.lemmas.Option.{none-some, same_Some}
use Rattle.gs_core.specs.declared.event.Event.{Event}
use Rattle.gs_run.specs.Net.{Net, neighbours}
use Rattle.gs_calendar.specs.Calendar.{Turn, turn, next_turn, ticks_now, given_seq, sent_at, comes_at, if_comes, coming, arrivals}
use Rattle.gs_calendar.specs.Course.{Course}
use Rattle.gs_calendar.specs.Due.{Key, due_by, due_after, key_cmp}
use Rattle.gs_calendar.specs.Events.{deliveries, deliveries_to}
use Rattle.gs_calendar.specs.inside.Feeds.{deliver_all, key_of}
use Rattle.gs_calendar.specs.Transits.{Has, AreInOrder, Comes, InTransit, IsCovering}
use Rattle.gs_calendar.proofs.Comings.{comes_when}
use Rattle.gs_calendar.proofs.Placed.{has_insert, insert_has, insert_in_order}
use Rattle.gs_calendar.proofs.Sorted.{has_after, after_has, after_in_order}
use Rattle.gs_calendar.proofs.Turns.{sent_above}
use Rattle.gs_calendar.proofs.Waiting.{AreSlow, covering_deliveries}
use Rattle.gs_seat.specs.Held.{IsHeld, SendsNone, handed}

-- a later look at the same list
pub in_more : (net : Net) (c : Course) (v n m a : ℕ) (k : Key) → n ≤ m → InTransit net c v n a k → InTransit net c v m a k
in_more net c v n m a k le is = record { later = is.later; among = is.among; when = is.when; by = (let by = is.by in omega (arith, by, le)); is = is.is }

-- ---- what was not handed over is as if it were lost

-- the course in which all is lost that a node sends after a quantum of its own
abbrev only_by : (ℕ → ℕ) → Course → Course
only_by by c = record c { lost = λ from to n. nat_lt (by from) n || c.lost from to n }

turn_same : (net : Net) (c : Course) (by : ℕ → ℕ) (x t : ℕ) → turn net (only_by by c) x t ≡ turn net c x t
turn_same net c by x zero = refl
turn_same net c by x (suc t) = ap (next_turn net.every (c.gap x (suc t)) (suc t)) (turn_same net c by x t)

sent_same : (net : Net) (c : Course) (by : ℕ → ℕ) (x t : ℕ) → sent_at net (only_by by c) x t ≡ sent_at net c x t
sent_same net c by x zero = refl
sent_same net c by x (suc t) = ap (λ (u : Turn). given_seq (ticks_now (c.gap x (suc t)) (suc t) u) net.every u) (turn_same net c by x t)

-- what was handed over comes as before, and nothing else
early_same : (c : Course) (by : ℕ → ℕ) (x v d n : ℕ) → n ≤ by x → comes_at (only_by by c) x v d n ≡ comes_at c x v d n
early_same c by x v d n le = let early : nat_lt (by x) n ≡ false = le-ltb (by x) n le in rw early refl

late_never : (c : Course) (by : ℕ → ℕ) (x v d n : ℕ) → by x < n → comes_at (only_by by c) x v d n ≡ false
late_never c by x v d n less = let late : nat_lt (by x) n ≡ true = lt-ltb (by x) n less in rw late refl

cut : (net : Net) (c : Course) (by : ℕ → ℕ) (v n a : ℕ) (k : Key) → by k.from ≤ n → InTransit net c v (by k.from) a k → InTransit net (only_by by c) v n a k
cut net c by v n a k le it = record {
  later = it.later;
  among = it.among;
  when = it.when;
  by = (let by_then = it.by in omega (arith, by_then, le));
  is = record { sent = sent_same net c by k.from it.when ∙ it.is.sent; comes = early_same c by k.from v k.due it.when it.by ∙ it.is.comes };
}

uncut : (net : Net) (c : Course) (by : ℕ → ℕ) (v n a : ℕ) (k : Key) → InTransit net (only_by by c) v n a k → InTransit net c v (by k.from) a k
uncut net c by v n a k it = elim (cases_lt (by k.from) it.when) [
  | inl late ↦ absurd (true≢false (sym it.is.comes ∙ late_never c by k.from v k.due it.when late))
  | inr early ↦
      let le : it.when ≤ by k.from = omega (arith, early) in
      record {
        later = it.later;
        among = it.among;
        when = it.when;
        by = le;
        is = record { sent = sym (sent_same net c by k.from it.when) ∙ it.is.sent; comes = sym (early_same c by k.from v k.due it.when le) ∙ it.is.comes };
      }
]

-- nothing that was not handed over to v is due by quantum t
abbrev pub AreLate : Net → Course → ℕ → (ℕ → ℕ) → ℕ → Type 0
AreLate net c v by t = (x q : ℕ) → Has x (neighbours net v) → by x < q → t < q + c.delay x v q

and_false : (b : Bool) → (b && false) ≡ false
and_false true = refl
and_false false = refl

comes_same : (net : Net) (c : Course) (by : ℕ → ℕ) (x v t n : ℕ) → Has x (neighbours net v) → AreLate net c v by t → comes_at (only_by by c) x v t n ≡ comes_at c x v t n
comes_same net c by x v t n among late = elim (cases_lt (by x) n) [
  | inl after ↦
      let due = late x n among after in
      let other : (n + c.delay x v n == t) ≡ false = ne_eqb (n + c.delay x v n) t (λ e. omega (arith, e, due)) in
      late_never c by x v t n after ∙ sym (ap (λ (b : Bool). not (c.lost x v n) && b) other ∙ and_false (not (c.lost x v n)))
  | inr early ↦ early_same c by x v t n (omega (arith, early))
]

coming_same : (net : Net) (c : Course) (by : ℕ → ℕ) (x v t n : ℕ) → Has x (neighbours net v) → AreLate net c v by t → coming net (only_by by c) x v t n ≡ coming net c x v t n
coming_same net c by x v t zero among late = refl
coming_same net c by x v t (suc n) among late =
    ap (λ (xs : List (ℕ × ℕ)). xs ++ if_comes (comes_at (only_by by c) x v t (suc n)) (suc n) (sent_at net (only_by by c) x (suc n))) (coming_same net c by x v t n among late)
    ∙ ap (λ (b : Bool). coming net c x v t n ++ if_comes b (suc n) (sent_at net (only_by by c) x (suc n))) (comes_same net c by x v t (suc n) among late)
    ∙ ap (λ (o : Option ℕ). coming net c x v t n ++ if_comes (comes_at c x v t (suc n)) (suc n) o) (sent_same net c by x (suc n))

flat_same : (f g : ℕ → List Event) (xs : List ℕ) → ((x : ℕ) → Has x xs → f x ≡ g x) → flat_map f xs ≡ flat_map g xs
unfolding Has
flat_same f g [] same = refl
flat_same f g (x ∷ xs) same = ap (λ (es : List Event). es ++ flat_map f xs) (same x (inl refl)) ∙ ap (λ (es : List Event). g x ++ es) (flat_same f g xs (λ y has. same y (inr has)))

-- ---- what is due is taken

-- what is due in the next quantum, delivered, is what the events say
pub held_due : (net : Net) (c : Course) (v t : ℕ) (by : ℕ → ℕ) (ks : List Key) → AreSlow net c v → ((x : ℕ) → by x ≤ t) → AreLate net c v by (suc t) → IsHeld net c v by t ks
    → deliver_all v (due_by (suc t) ks) ≡ deliveries_to net c (suc t) v
held_due net c v t by ks slow before late is =
    let covers : IsCovering net (only_by by c) v t ks = record {
      order = is.order;
      only = λ k has. cut net c by v (suc t) t k (let le = before k.from in omega (arith, le)) (is.only k has);
      all = λ k it. is.all k (uncut net c by v t t k it);
    } in
    covering_deliveries net (only_by by c) v t ks slow covers
    ∙ flat_same (λ x. deliveries x v (arrivals net (only_by by c) x v (suc t))) (λ x. deliveries x v (arrivals net c x v (suc t))) (neighbours net v)
    (λ x among. ap (deliveries x v) (coming_same net c by x v (suc t) t among late))

pub held_taken : (net : Net) (c : Course) (v t : ℕ) (by : ℕ → ℕ) (ks : List Key) → IsHeld net c v by t ks → IsHeld net c v by (suc t) (due_after (suc t) ks)
held_taken net c v t by ks is = record {
  order = after_in_order (suc t) ks is.order;
  only = λ k has.
      let left = has_after (suc t) ks k is.order has in
      let it = is.only k left.0 in
      record { later = left.1; among = it.among; when = it.when; by = it.by; is = it.is };
  all = λ k it.
      let later = it.later in
      after_has (suc t) ks k (is.all k (record { later = omega (arith, later); among = it.among; when = it.when; by = it.by; is = it.is })) later;
}

-- where nothing is due, nothing is
by_first : (t : ℕ) (k : Key) (ks : List Key) (b : Bool) → nat_le k.due t ≡ b → due_by t (k ∷ ks) ≡ [] → due_after t (k ∷ ks) ≡ k ∷ ks
by_first t k ks true e none =
    let some : due_by t (k ∷ ks) ≡ k ∷ due_by t ks = cond-true (nat_le k.due t) (k ∷ due_by t ks) [] e in
    absurd (let same : k ∷ due_by t ks ≡ [] = sym some ∙ none in cc)
by_first t k ks false e none = cond-false (nat_le k.due t) (due_after t ks) (k ∷ ks) e

none_taken : (t : ℕ) (ks : List Key) → due_by t ks ≡ [] → due_after t ks ≡ ks
none_taken t [] none = refl
none_taken t (k ∷ ks) none = by_first t k ks (nat_le k.due t) refl none

pub held_idle : (net : Net) (c : Course) (v t : ℕ) (by : ℕ → ℕ) (ks : List Key) → due_by (suc t) ks ≡ [] → IsHeld net c v by t ks → IsHeld net c v by (suc t) ks
held_idle net c v t by ks none is = subst (λ (xs : List Key). IsHeld net c v by (suc t) xs) (none_taken (suc t) ks none) (held_taken net c v t by ks is)

-- ---- a node hands over

pub handed_own : (by : ℕ → ℕ) (x q y : ℕ) → y ≡ x → handed by x q y ≡ q
handed_own by x q y same = let own : (y == x) ≡ true = eq-eqb y x same in rw own refl

pub handed_other : (by : ℕ → ℕ) (x q y : ℕ) → (y ≡ x → ⊥) → handed by x q y ≡ by y
handed_other by x q y differs = let other : (y == x) ≡ false = ne_eqb y x differs in rw other refl

-- the list has all that x sends after `by x` and by quantum q, and nothing else is new
record HandsOver (net : Net) (c : Course) (v t x q : ℕ) (by : ℕ → ℕ) (old new : List Key) : Type 0 where
  later : by x ≤ q
  order : AreInOrder new
  keeps : (k : Key) → Has k old → Has k new
  only : (k : Key) → Has k new → Has k old ⊎ ((k.from ≡ x) × InTransit net c v q t k)
  all : (k : Key) (n : ℕ) → k.from ≡ x → by x < n → n ≤ q → Comes net c k.from v k.due n k.seq → Has k new

held_handed : (net : Net) (c : Course) (v t x q : ℕ) (by : ℕ → ℕ) (old new : List Key) → HandsOver net c v t x q by old new → IsHeld net c v by t old → IsHeld net c v (handed by x q) t new
held_handed net c v t x q by old new over is = record {
  order = over.order;
  only = λ k has. elim (over.only k has) [
    | inl was ↦ kept k (is.only k was)
    | inr own ↦ subst (λ (n : ℕ). InTransit net c v n t k) (sym (handed_own by x q k.from own.0)) own.1
  ];
  all = λ k it. elim (cases_eq k.from x) [
    | inl own ↦ elim (cases_lt (by x) it.when) [
      | inl after ↦ over.all k it.when own after (subst (λ (n : ℕ). it.when ≤ n) (handed_own by x q k.from own) it.by) it.is
      | inr before ↦ over.keeps k (is.all k (record { later = it.later; among = it.among; when = it.when; by = (let same = ap by own in omega (arith, before, same)); is = it.is }))
    ]
    | inr other ↦ over.keeps k (is.all k (subst (λ (n : ℕ). InTransit net c v n t k) (handed_other by x q k.from other) it))
  ];
}
  where
    kept : (k : Key) → InTransit net c v (by k.from) t k → InTransit net c v (handed by x q k.from) t k
    kept k it = elim (cases_eq k.from x) [
      | inl own ↦ subst (λ (n : ℕ). InTransit net c v n t k) (sym (handed_own by x q k.from own)) (in_more net c v (by k.from) q t k (let same = ap by own in let le = over.later in omega (arith, same, le)) it)
      | inr other ↦ subst (λ (n : ℕ). InTransit net c v n t k) (sym (handed_other by x q k.from other)) it
    ]

-- it sent nothing
pub held_none : (net : Net) (c : Course) (v t x q : ℕ) (by : ℕ → ℕ) (ks : List Key) → by x ≤ q → SendsNone net c x (by x) (suc q) → IsHeld net c v by t ks → IsHeld net c v (handed by x q) t ks
held_none net c v t x q by ks le none is = held_handed net c v t x q by ks ks (record {
  later = le;
  order = is.order;
  keeps = λ k has. has;
  only = λ k has. inl has;
  all = λ k n own after before comes. absurd (none-some k.seq (sym (none n after (omega (arith, before))) ∙ subst (λ (y : ℕ). sent_at net c y n ≡ Some k.seq) own comes.sent));
}) is

-- what it sends in quantum q, the first after `by x`
abbrev pub IsFirst : Net → Course → ℕ → ℕ → ℕ → ℕ → Type 0
IsFirst net c x a q seq = (a < q) × SendsNone net c x a q × (sent_at net c x q ≡ Some seq)

-- is lost
pub held_lost : (net : Net) (c : Course) (v t x q seq : ℕ) (by : ℕ → ℕ) (ks : List Key) → IsFirst net c x (by x) q seq → c.lost x v q ≡ true → IsHeld net c v by t ks → IsHeld net c v (handed by x q) t ks
held_lost net c v t x q seq by ks first lost is = held_handed net c v t x q by ks ks (record {
  later = (let less = first.0 in omega (arith, less));
  order = is.order;
  keeps = λ k has. has;
  only = λ k has. inl has;
  all = λ k n own after before comes. absurd (never k n own after before comes);
}) is
  where
    never : (k : Key) (n : ℕ) → k.from ≡ x → by x < n → n ≤ q → Comes net c k.from v k.due n k.seq → ⊥
    never k n own after before comes =
        let here : Comes net c x v k.due n k.seq = subst (λ (y : ℕ). Comes net c y v k.due n k.seq) own comes in
        elim (cases_eq n q) [
          | inl now ↦
              let gone : comes_at c x v k.due q ≡ false = rw lost refl in
              true≢false (sym (subst (λ (m : ℕ). comes_at c x v k.due m ≡ true) now here.comes) ∙ gone)
          | inr old ↦ none-some k.seq (sym (first.1 n after (omega (arith, before, old))) ∙ here.sent)
        ]

-- or is on its way, and was not there before
pub is_new : (net : Net) (c : Course) (v t x q seq : ℕ) (by : ℕ → ℕ) (ks : List Key) → IsFirst net c x (by x) q seq → IsHeld net c v by t ks → Has (key_of c x v q seq) ks → ⊥
is_new net c v t x q seq by ks first is has =
    let it = is.only (key_of c x v q seq) has in
    let by_then = it.by in
    let less = first.0 in
    let rises = sent_above net c x it.when q seq seq (omega (arith, by_then, less)) it.is.sent first.2 in
    omega (arith, rises)

pub held_put : (net : Net) (c : Course) (v t x q seq : ℕ) (by : ℕ → ℕ) (ks : List Key) → IsFirst net c x (by x) q seq → c.lost x v q ≡ false → t < q + c.delay x v q → Has x (neighbours net v)
    → IsHeld net c v by t ks → IsHeld net c v (handed by x q) t (insert_key key_cmp ks (key_of c x v q seq))
held_put net c v t x q seq by ks first kept later among is =
    let new : Key = key_of c x v q seq in
    held_handed net c v t x q by ks (insert_key key_cmp ks new) (record {
      later = (let less = first.0 in omega (arith, less));
      order = insert_in_order new ks is.order;
      keeps = λ k has. insert_has new ks k (inr has);
      only = λ k has. elim (has_insert new ks k has) [
        | inl same ↦ inr (
          sym (ap (λ (y : Key). y.from) same),
          subst (λ (y : Key). InTransit net c v q t y) same (record {
            later = later;
            among = among;
            when = q;
            by = omega arith;
            is = record { sent = first.2; comes = rw kept (eq-eqb (q + c.delay x v q) (q + c.delay x v q) refl) };
          }),
        )
        | inr was ↦ inl was
      ];
      all = λ k n own after before comes. insert_has new ks k (inl (same_key k n own after before comes));
    }) is
  where
    same_key : (k : Key) (n : ℕ) → k.from ≡ x → by x < n → n ≤ q → Comes net c k.from v k.due n k.seq → key_of c x v q seq ≡ k
    same_key k n own after before comes =
        let here : Comes net c x v k.due n k.seq = subst (λ (y : ℕ). Comes net c y v k.due n k.seq) own comes in
        elim (cases_eq n q) [
          | inl now ↦
              let due : q + c.delay x v q ≡ k.due = comes_when c x v k.due q (subst (λ (m : ℕ). comes_at c x v k.due m ≡ true) now here.comes) in
              let same : seq ≡ k.seq = same_Some seq k.seq (sym first.2 ∙ subst (λ (m : ℕ). sent_at net c x m ≡ Some k.seq) now here.sent) in
              λ i. record { due = due i; from = sym own i; seq = same i }
          | inr old ↦ absurd (none-some k.seq (sym (first.1 n after (omega (arith, before, old))) ∙ here.sent))
        ]

-- only the neighbours count
pub held_as : (net : Net) (c : Course) (v t : ℕ) (by other : ℕ → ℕ) (ks : List Key) → ((x : ℕ) → Has x (neighbours net v) → by x ≡ other x) → IsHeld net c v by t ks → IsHeld net c v other t ks
held_as net c v t by other ks same is = record {
  order = is.order;
  only = λ k has. (let it = is.only k has in subst (λ (n : ℕ). InTransit net c v n t k) (same k.from it.among) it);
  all = λ k it. is.all k (subst (λ (n : ℕ). InTransit net c v n t k) (sym (same k.from it.among)) it);
}
