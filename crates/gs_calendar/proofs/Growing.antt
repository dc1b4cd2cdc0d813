-- What is in transit while the beacons of the next quantum are added.
use Rattle.std.proofs.Common.{◌≡◌, ℕ, zero, suc, ◌+◌, ◌-◌, ◌<◌, ◌≤◌, ◌==◌, Bool, true, false, not, cond, ◌⊎◌, inl, inr, arith, refl, ap, sym, ◌∙◌, subst, List, [], ◌∷◌, length, slice_index_or, slice_set, get_or-set_same, get_or-set_other, Option, Some, None}
use Rattle.std.specs.BTreeSet.{insert_key}
use Rattle.std.proofs.lemmas.Bool.{cases_eq, cases_lt}
use Rattle.std.proofs.lemmas.List.{length-set}
use Rattle.gs_run.specs.Net.{Net, neighbours}
use Rattle.gs_calendar.specs.Due.{Key}
use Rattle.gs_calendar.specs.Course.{Course}
use Rattle.gs_calendar.specs.Calendar.{sent_at}
use Rattle.gs_calendar.specs.Due.{key_cmp}
use Rattle.gs_calendar.specs.Transits.{Has, AreInOrder, InTransit, IsCovering}
use Rattle.gs_calendar.specs.inside.Feeds.{waiting, HasSent, HasSentAll, Grows}
use Rattle.gs_calendar.proofs.Comings.{comes_when}
use Rattle.gs_calendar.proofs.Placed.{has_insert, insert_has, insert_in_order}
use Rattle.gs_calendar.proofs.Waiting.{IsTransit, cover_full}

-- all that was sent by quantum t and is due later is kept, and beside it only beacons of the next quantum
abbrev pub AreCovering : Net → Course → ℕ → List (List Key) → Type 0
AreCovering net c t lists = (v : ℕ) → v < net.nodes → IsCovering net c v t (waiting lists v)

pub grows_refl : (net : Net) (c : Course) (t : ℕ) (lists : List (List Key)) → Grows net c t lists lists
grows_refl net c t lists = record { same = refl; order = λ v o. o; keeps = λ v k h. h; only = λ v k h. inl h }

pub grows_on : (net : Net) (c : Course) (t : ℕ) (a b d : List (List Key)) → Grows net c t a b → Grows net c t b d → Grows net c t a d
grows_on net c t a b d f g = record {
  same = g.same ∙ f.same;
  order = λ v o. g.order v (f.order v o);
  keeps = λ v k h. g.keeps v k (f.keeps v k h);
  only = λ v k h. elim (g.only v k h) [ inl old ↦ f.only v k old | inr new ↦ inr new ];
}

-- ---- one key is put
set_is : (lists : List (List Key)) (v u : ℕ) (ks : List Key) → v < length lists → (u ≡ v) ⊎ (u ≡ v → ⊥) → ((u ≡ v) × (waiting (slice_set lists v ks) u ≡ ks)) ⊎ (waiting (slice_set lists v ks) u ≡ waiting lists u)
set_is lists v u ks inside (inl same) = inl (same, (rw same (get_or-set_same lists v ks [] inside)))
set_is lists v u ks inside (inr other) = inr (get_or-set_other lists v u ks [] other)

pub grows_put : (net : Net) (c : Course) (t : ℕ) (old : List (List Key)) (v : ℕ) (x : Key) → v < length old → InTransit net c v (suc t) t x
    → Grows net c t old (slice_set old v (insert_key key_cmp (waiting old v) x))
grows_put net c t old v x inside is =
    let ks : List Key = insert_key key_cmp (waiting old v) x in
    let new : List (List Key) = slice_set old v ks in
    record {
      same = length-set old v ks;
      order = λ u o. elim (set_is old v u ks inside (cases_eq u v)) [
        | inl here ↦ subst (λ (l : List Key). AreInOrder l) (sym here.1) (insert_in_order x (waiting old v) (subst (λ (n : ℕ). AreInOrder (waiting old n)) here.0 o))
        | inr there ↦ subst (λ (l : List Key). AreInOrder l) (sym there) o
      ];
      keeps = λ u k h. elim (set_is old v u ks inside (cases_eq u v)) [
        | inl here ↦ subst (λ (l : List Key). Has k l) (sym here.1) (insert_has x (waiting old v) k (inr (subst (λ (n : ℕ). Has k (waiting old n)) here.0 h)))
        | inr there ↦ subst (λ (l : List Key). Has k l) (sym there) h
      ];
      only = λ u k h. elim (set_is old v u ks inside (cases_eq u v)) [
        | inl here ↦ elim (has_insert x (waiting old v) k (subst (λ (l : List Key). Has k l) here.1 h)) [
          | inl same ↦ inr (let P : ℕ → Key → Type 0 = λ n y. InTransit net c n (suc t) t y in subst (λ (n : ℕ). P n k) (sym here.0) (subst (λ (y : Key). P v y) same is))
          | inr more ↦ inl (subst (λ (n : ℕ). Has k (waiting old n)) (sym here.0) more)
        ]
        | inr there ↦ inl (subst (λ (l : List Key). Has k l) there h)
      ];
    }

-- ---- a beacon that is sent is in transit
pub sent_transit : (net : Net) (c : Course) (from to t seq due : ℕ) → sent_at net c from (suc t) ≡ Some seq → c.lost from to (suc t) ≡ false → due ≡ suc t + c.delay from to (suc t) → 1 ≤ c.delay from to (suc t) → Has from (neighbours net to)
    → InTransit net c to (suc t) t (record { due = due; from = from; seq = seq })
sent_transit net c from to t seq due sent kept e slow among = record {
  later = omega arith;
  among = among;
  when = suc t;
  by = omega arith;
  is = record { sent = sent; comes = rw kept (Rattle.std.proofs.lemmas.Bool.eq-eqb (suc t + c.delay from to (suc t)) due (sym e)) };
}

-- it is all that was sent over its edge
pub put_sent : (net : Net) (c : Course) (from to t seq due : ℕ) (lists : List (List Key)) → to < length lists → sent_at net c from (suc t) ≡ Some seq → due ≡ suc t + c.delay from to (suc t)
    → HasSent net c (suc t) from to (slice_set lists to (insert_key key_cmp (waiting lists to) (record { due = due; from = from; seq = seq })))
put_sent net c from to t seq due lists inside sent e = λ k same is.
    let x : Key = record { due = due; from = from; seq = seq } in
    let at : suc t + c.delay from to (suc t) ≡ k.due = comes_when c from to k.due (suc t) is.comes in
    let number : seq ≡ k.seq = (let both : Some seq ≡ Some k.seq = sym sent ∙ is.sent in cc) in
    let is_x : x ≡ k = λ i. record { due = (e ∙ at) i; from = (sym same) i; seq = number i } in
    subst (λ (l : List Key). Has k l) (sym (get_or-set_same lists to (insert_key key_cmp (waiting lists to) x) [] inside)) (insert_has x (waiting lists to) k (inl is_x))

lost_comes : (lost b : Bool) → lost ≡ true → Rattle.std.proofs.Common.◌&&◌ (not lost) b ≡ true → ⊥
lost_comes lost b e h = Rattle.std.proofs.lemmas.Bool.true≢false (sym (rw e at h))

-- where it is lost, there is none
pub lost_sent : (net : Net) (c : Course) (from to t : ℕ) (lists : List (List Key)) → c.lost from to t ≡ true → HasSent net c t from to lists
lost_sent net c from to t lists e = λ k same is. absurd (lost_comes (c.lost from to t) (t + c.delay from to t == k.due) e is.comes)

-- where nothing is sent, there is none
pub none_sent : (net : Net) (c : Course) (from t : ℕ) (lists : List (List Key)) → sent_at net c from t ≡ None → HasSentAll net c t from lists
none_sent net c from t lists e = λ to below among k same is. absurd (let both : None ≡ Some k.seq = sym e ∙ is.sent in cc)

pub sent_stays : (net : Net) (c : Course) (from to t n : ℕ) (a b : List (List Key)) → Grows net c t a b → HasSent net c n from to a → HasSent net c n from to b
sent_stays net c from to t n a b g h = λ k same is. g.keeps to k (h k same is)

-- ---- what it all comes to
pub grows_covers : (net : Net) (c : Course) (t : ℕ) (old new : List (List Key)) → Grows net c t old new → AreCovering net c t old → AreCovering net c t new
grows_covers net c t old new g h = λ v below. record {
  order = g.order v (h v below).order;
  only = λ k i. elim (g.only v k i) [ inl was ↦ (h v below).only k was | inr is ↦ is ];
  all = λ k it. g.keeps v k ((h v below).all k it);
}

pub all_sent : (net : Net) (c : Course) (t v : ℕ) (lists : List (List Key)) → v < net.nodes → AreCovering net c t lists → ((from : ℕ) → Has from (neighbours net v) → from < net.nodes)
    → ((from : ℕ) → from < net.nodes → HasSentAll net c (suc t) from lists) → IsTransit net c v (suc t) t (waiting lists v)
all_sent net c t v lists below covers inside sent = cover_full net c v t (waiting lists v) (covers v below) (λ k among is. sent k.from (inside k.from among) v below among k refl is)
