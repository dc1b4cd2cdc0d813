-- What a feed has left, step by step.
use Rattle.std.proofs.Common.{◌≡◌, ℕ, zero, suc, ◌+◌, ◌-◌, ◌<◌, ◌≤◌, false, inl, inr, arith, refl, ap, sym, ◌∙◌, subst, List, [], ◌∷◌, ◌++◌, append-nil, append_assoc, length, slice_set, get_or-set_same, get_or-set_other, nat_le}
use Rattle.std.specs.List.{flat_map, range_with_len}
use Rattle.std.proofs.lemmas.Bool.{cases_Bool, cases_eq, le-leb, leb-true}
use Rattle.std.proofs.lemmas.List.{length-set}
use Rattle.gs_core.specs.declared.event.Event.{Event}
use Rattle.gs_core.specs.declared.event.Event.TheVariants.{Tick, Deliver}
use Rattle.gs_run.specs.Net.{Net}
use Rattle.gs_calendar.specs.Due.{Key}
use Rattle.gs_calendar.specs.Calendar.{Turn}
use Rattle.gs_calendar.specs.Course.{Course}
use Rattle.gs_calendar.specs.Due.{due_by, due_after}
use Rattle.gs_calendar.specs.Events.{events_from, events_of, events_upto, quantum_at}
use Rattle.gs_calendar.specs.Transits.{Has, IsCovering}
use Rattle.gs_calendar.specs.inside.Feeds.{IsFeed, NoneIsDue, Takes, deliver_all, deliveries_left, left_of, ticks_left, waiting}
use Rattle.gs_calendar.proofs.Ticking.{range_end, range_step}

-- ---- quantum after quantum
pub events_split : (net : Net) (c : Course) (t n : ℕ) → events_upto net c (t + n) ≡ events_upto net c t ++ events_from net c t n
events_split net c t zero = let e : t + 0 ≡ t = omega arith in rw e (sym (append-nil (events_upto net c t)))
events_split net c t (suc n) =
    let e : t + suc n ≡ suc t + n = omega arith in
    rw e (events_split net c (suc t) n ∙ append_assoc (events_upto net c t) (quantum_at net c (suc t)) (events_from net c (suc t) n))

pub all_left : (net : Net) (c : Course) → events_from net c 0 c.quanta ≡ events_of net c
all_left net c = let e : 0 + c.quanta ≡ c.quanta = omega arith in sym (rw e at (events_split net c 0 c.quanta))

-- ---- what is due, and what is not
pub none_after : (t : ℕ) (ks : List Key) → due_by t ks ≡ [] → due_after t ks ≡ ks
none_after t [] h = refl
none_after t (k ∷ ks) h = elim (cases_Bool (nat_le k.due t)) [
  | inl e ↦ absurd (let x : k ∷ due_by t ks ≡ [] = rw e at h in cc)
  | inr e ↦ rw e
]

later_by : (t : ℕ) (ks : List Key) → ((k : Key) → Has k ks → t < k.due) → due_by t ks ≡ []
unfolding Has
later_by t [] h = refl
later_by t (k ∷ ks) h = let late : nat_le k.due t ≡ false = Rattle.std.proofs.lemmas.Bool.lt-leb k.due t (h k (inl refl)) in rw late

pub covers_later : (net : Net) (c : Course) (v t : ℕ) (ks : List Key) → IsCovering net c v t ks → (due_by t ks ≡ []) × (due_after t ks ≡ ks)
covers_later net c v t ks is =
    let none : due_by t ks ≡ [] = later_by t ks (λ k i. (is.only k i).later) in
    (none, none_after t ks none)

-- ---- a beacon is delivered
flat_none : (f : ℕ → List Event) (a n : ℕ) → ((u : ℕ) → a ≤ u → u < a + n → f u ≡ []) → flat_map f (range_with_len a n) ≡ []
flat_none f a zero h = refl
flat_none f a (suc n) h = rw (h a (omega arith) (omega arith)) (flat_none f (a + 1) n (λ u low high. h u (omega arith) (omega arith)))

pub flat_same : (f g : ℕ → List Event) (a n : ℕ) → ((u : ℕ) → a ≤ u → u < a + n → f u ≡ g u) → flat_map f (range_with_len a n) ≡ flat_map g (range_with_len a n)
flat_same f g a zero h = refl
flat_same f g a (suc n) h = rw (h a (omega arith) (omega arith)) (ap (λ (es : List Event). g a ++ es) (flat_same f g (a + 1) n (λ u low high. h u (omega arith) (omega arith))))

-- from the first place where there is something
flat_from : (f : ℕ → List Event) (a v n : ℕ) → a ≤ v → v < n → ((u : ℕ) → a ≤ u → u < v → f u ≡ []) → (k : ℕ) → a + k ≡ v → flat_map f (range_with_len a (n - a)) ≡ flat_map f (range_with_len v (n - v))
flat_from f a v n low high none zero e = let same : a ≡ v = omega arith in rw same
flat_from f a v n low high none (suc k) e =
    let here : f a ≡ [] = none a (omega arith) (omega arith) in
    ap (λ (us : List ℕ). flat_map f us) (range_step a n (omega arith))
    ∙ rw here (flat_from f (a + 1) v n (omega arith) high (λ u l h. none u (omega arith) h) k (omega arith))

takes_here : (t : ℕ) (old : List (List Key)) (v : ℕ) (k : Key) (rest : List Key) → v < length old → waiting old v ≡ k ∷ rest → k.due ≤ t
    → deliveries_left t old v ≡ Deliver k.from v k.seq ∷ deliveries_left t (slice_set old v rest) v
takes_here t old v k rest inside is due =
    let new : List (List Key) = slice_set old v rest in
    let f : ℕ → List Event = λ u. deliver_all u (due_by t (waiting old u)) in
    let g : ℕ → List Event = λ u. deliver_all u (due_by t (waiting new u)) in
    let first : f v ≡ Deliver k.from v k.seq ∷ deliver_all v (due_by t rest) = rw (is, le-leb k.due t due) in
    let left : g v ≡ deliver_all v (due_by t rest) = ap (λ (ks : List Key). deliver_all v (due_by t ks)) (get_or-set_same old v rest [] inside) in
    let others : flat_map f (range_with_len (v + 1) (length old - (v + 1))) ≡ flat_map g (range_with_len (v + 1) (length old - (v + 1))) =
    flat_same f g (v + 1) (length old - (v + 1)) (λ u low high. ap (λ (ks : List Key). deliver_all u (due_by t ks)) (sym (get_or-set_other old v u rest [] (λ e. omega (arith, e, low))))) in
    let count : length new ≡ length old = length-set old v rest in
    ap (λ (us : List ℕ). flat_map f us) (range_step v (length old) inside)
    ∙ ap (λ (es : List Event). f v ++ es) others
    ∙ ap (λ (es : List Event). es ++ flat_map g (range_with_len (v + 1) (length old - (v + 1)))) (first ∙ ap (λ (es : List Event). Deliver k.from v k.seq ∷ es) (sym left))
    ∙ ap (λ (us : List ℕ). Deliver k.from v k.seq ∷ flat_map g us) (sym (range_step v (length old) inside) ∙ ap (λ (n : ℕ). range_with_len v (n - v)) (sym count))

pub takes_left : (net : Net) (c : Course) (t to at : ℕ) (turns : List Turn) (old : List (List Key)) (v : ℕ) (k : Key) (new : List (List Key)) → Takes t to old v k new
    → left_of net c t to at turns old ≡ Deliver k.from v k.seq ∷ left_of net c t v at turns new
takes_left net c t to at turns old v k new is =
    let f : ℕ → List Event = λ u. deliver_all u (due_by t (waiting old u)) in
    let low = is.from in
    let deliveries : deliveries_left t old to ≡ Deliver k.from v k.seq ∷ deliveries_left t new v =
    flat_from f to v (length old) low is.inside (λ u l h. ap (λ (ks : List Key). deliver_all u ks) (is.none u l h)) (v - to) (omega arith)
    ∙ takes_here t old v k is.rest is.inside is.is is.due
    ∙ ap (λ (l : List (List Key)). Deliver k.from v k.seq ∷ deliveries_left t l v) (sym is.left) in
    ap (λ (es : List Event). (es ++ ticks_left t turns at) ++ events_from net c t (c.quanta - t)) deliveries

after_take : (t : ℕ) (k : Key) (ks : List Key) → k.due ≤ t → due_after t (k ∷ ks) ≡ due_after t ks
after_take t k ks h = rw (le-leb k.due t h)

pub takes_feed : (net : Net) (c : Course) (t to at : ℕ) (turns next : List Turn) (old : List (List Key)) (v : ℕ) (k : Key) (new : List (List Key)) → IsFeed net c t to at turns next old → Takes t to old v k new
    → IsFeed net c t v at turns next new
takes_feed net c t to at turns next old v k new feed is =
    let at_v : waiting new v ≡ is.rest = ap (λ (l : List (List Key)). waiting l v) is.left ∙ get_or-set_same old v is.rest [] is.inside in
    let other : (u : ℕ) → (u ≡ v → ⊥) → waiting new u ≡ waiting old u = λ u e. ap (λ (l : List (List Key)). waiting l u) is.left ∙ get_or-set_other old v u is.rest [] e in
    let inside = is.inside in
    let counts = feed.list_count in
    record {
      by = feed.by;
      receivers = omega arith;
      ticking = feed.ticking;
      turn_count = feed.turn_count;
      next_count = feed.next_count;
      list_count = ap length is.left ∙ length-set old v is.rest ∙ feed.list_count;
      told = feed.told;
      covers = λ u below. elim (cases_eq u v) [
        | inl same ↦ (let P : ℕ → List Key → Type 0 = λ n ks. IsCovering net c n t ks in
            subst (λ (n : ℕ). P n (due_after t (waiting new n))) (sym same)
            (subst (λ (ks : List Key). P v ks) (ap (λ (ks : List Key). due_after t ks) is.is ∙ after_take t k is.rest is.due ∙ ap (λ (ks : List Key). due_after t ks) (sym at_v)) (feed.covers v (omega arith))))
        | inr apart ↦ subst (λ (ks : List Key). IsCovering net c u t ks) (ap (λ (ks : List Key). due_after t ks) (sym (other u apart))) (feed.covers u below)
      ];
      done = λ u below.
          let apart : (u ≡ v → ⊥) = λ e. omega (arith, e, below) in
          ap (λ (ks : List Key). due_by t ks) (other u apart) ∙ elim (Rattle.std.proofs.lemmas.Bool.cases_lt u to) [ inl old ↦ feed.done u old | inr later ↦ is.none u later below ];
    }

-- ---- no delivery is left
pub none_left : (net : Net) (c : Course) (t to at : ℕ) (turns next : List Turn) (lists : List (List Key)) → IsFeed net c t to at turns next lists → NoneIsDue t to lists
    → IsFeed net c t net.nodes at turns next lists × (left_of net c t to at turns lists ≡ left_of net c t net.nodes at turns lists)
none_left net c t to at turns next lists feed none =
    let counts = feed.list_count in
    let before = feed.receivers in (
      record {
        by = feed.by;
        receivers = omega arith;
        ticking = feed.ticking;
        turn_count = feed.turn_count;
        next_count = feed.next_count;
        list_count = feed.list_count;
        told = feed.told;
        covers = feed.covers;
        done = λ u below. elim (Rattle.std.proofs.lemmas.Bool.cases_lt u to) [ inl old ↦ feed.done u old | inr later ↦ none u later (omega arith) ];
      },
      ap (λ (es : List Event). (es ++ ticks_left t turns at) ++ events_from net c t (c.quanta - t)) (
          flat_none (λ u. deliver_all u (due_by t (waiting lists u))) to (length lists - to) (λ u low high. ap (λ (ks : List Key). deliver_all u ks) (none u low (omega arith)))
          ∙ ap (λ (us : List ℕ). flat_map (λ u. deliver_all u (due_by t (waiting lists u))) us) (sym (range_end net.nodes (length lists) (omega arith)))
          ),
    )

pub deliveries_end : (t n : ℕ) (lists : List (List Key)) → length lists ≤ n → deliveries_left t lists n ≡ []
deliveries_end t n lists h = ap (λ (us : List ℕ). flat_map (λ u. deliver_all u (due_by t (waiting lists u))) us) (range_end n (length lists) h)

-- ---- a tick is given, or none is left
pub tick_feed : (net : Net) (c : Course) (t to at v : ℕ) (turns next : List Turn) (lists : List (List Key)) → IsFeed net c t to at turns next lists → v ≤ net.nodes → IsFeed net c t to v turns next lists
tick_feed net c t to at v turns next lists feed h = record {
  by = feed.by;
  receivers = feed.receivers;
  ticking = h;
  turn_count = feed.turn_count;
  next_count = feed.next_count;
  list_count = feed.list_count;
  told = feed.told;
  covers = feed.covers;
  done = feed.done;
}

pub tick_left : (net : Net) (c : Course) (t at v : ℕ) (turns next : List Turn) (lists : List (List Key)) → IsFeed net c t net.nodes at turns next lists → ticks_left t turns at ≡ Tick v ∷ ticks_left t turns (v + 1)
    → left_of net c t net.nodes at turns lists ≡ Tick v ∷ left_of net c t net.nodes (v + 1) turns lists
tick_left net c t at v turns next lists feed e =
    let counts = feed.list_count in
    let none : deliveries_left t lists net.nodes ≡ [] = deliveries_end t net.nodes lists (omega arith) in
    rw (none, e)
