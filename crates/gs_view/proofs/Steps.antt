-- The steps that keep the rule.
use Rattle.std.proofs.Common.{◌+◌, arith, ◌≡◌, ℕ, ◌≤◌, ◌≢◌, List, [], ◌∷◌, ◌++◌, set, sym, ◌∙◌, ap, subst, ⊎_elim, append-nil, length, Some}
use Rattle.std.proofs.lemmas.List.{length_push}
use mathlib.Core.Option.{some}
use lib.ListN.{get_elem?}
use Rattle.left_right.specs.Register.{Admits, Turns, TurnsAt, Forks, Merges}
use Rattle.atomic_table.proofs.Lists.{at_set, at_snoc}
use Rattle.gs_view.specs.Lists.{StartsWith, Rises, last_place}
use Rattle.gs_view.specs.Rule.{Keeps, Sees, longer}
use Rattle.gs_view.specs.Telling.{Shows}
use Rattle.gs_view.specs.declared.snaps.Snap.{Snap}
use Rattle.gs_view.specs.declared.shown.Shown.{Shown}
use Rattle.gs_view.proofs.Beginnings.{begins_all, begins_nil, begins_more, whole, last_snoc, rises_snoc, longer_begins}

pub admits : Admits Keeps []
admits shown known h = record {
  snaps = h.snaps;
  shows = h.shows;
  rises = h.rises;
  begins = λ seat xs at.
      ⊎_elim (h.begins seat xs) (λ (e : [] ≡ xs). subst (λ (z : List Snap). StartsWith h.snaps z) e (begins_nil h.snaps))
      (at_snoc known [] xs seat at);
}

-- a step after which so many snaps more are published
step : (seat : ℕ) (v : List Snap) (x y : Shown)
    → ((snaps : List Snap) → Shows x snaps → Rises 0 snaps → StartsWith snaps v → (rest : List Snap) × Shows y (snaps ++ rest) × Rises 0 (snaps ++ rest))
    → TurnsAt Keeps seat v x y Sees
step seat v x y adds known h at =
    let before : StartsWith h.snaps v = h.begins seat v at in
    let more = adds h.snaps h.shows h.rises before in
    let now : List Snap = h.snaps ++ more.0 in (
      now,
      record {
        snaps = now;
        shows = more.1;
        rises = more.2;
        begins = λ j u e.
            ⊎_elim (λ (t : (j ≡ seat) × (now ≡ u)). subst (λ (z : List Snap). StartsWith now z) t.1 (begins_all now))
            (λ (t : (j ≢ seat) × (get_elem? known j ≡ some u)). begins_more h.snaps u more.0 (h.begins j u t.1))
            (at_set known seat j now u e);
      },
      (begins_more h.snaps v more.0 before, more.1),
    )

pub reads : (seat : ℕ) (v : List Snap) → Turns Keeps seat v (λ x. x) Sees
reads seat v x = step seat v x x (λ snaps shows rises before.
    ([], subst (λ (xs : List Snap). Shows x xs) (sym (append-nil snaps)) shows, subst (λ (xs : List Snap). Rises 0 xs) (sym (append-nil snaps)) rises))

-- the publisher's step: what it knows is all that is published, and one snap comes behind it
pub publishes : (seat : ℕ) (v : List Snap) (x y : Shown) (s : Snap)
    → Shows x v → y ≡ record { count = x.count + 1; last = Some s } → last_place 0 v ≤ s.place
    → TurnsAt Keeps seat v x y Sees
publishes seat v x y s knows is le = step seat v x y (λ snaps shows rises before.
    let all : snaps ≡ v = whole snaps v before (shows.0 ∙ sym knows.0) in
    let le' : last_place 0 snaps ≤ s.place = subst (λ (xs : List Snap). last_place 0 xs ≤ s.place) (sym all) le in
    let count : length (snaps ++ s ∷ []) ≡ y.count = (let a = shows.0 in let b = ap (λ (z : Shown). z.count) is in let c = length_push snaps s in omega arith) in
    (s ∷ [], (count, last_snoc snaps s ∙ sym (ap (λ (z : Shown). z.last) is)), rises_snoc 0 snaps s rises le'))

set_begins : (snaps : List Snap) (known : List (List Snap)) (seat : ℕ) (v : List Snap)
    → ((j : ℕ) (u : List Snap) → get_elem? known j ≡ some u → StartsWith snaps u) → StartsWith snaps v
    → (j : ℕ) (u : List Snap) → get_elem? (set known seat v) j ≡ some u → StartsWith snaps u
set_begins snaps known seat v h k j u e =
    ⊎_elim (λ (t : (j ≡ seat) × (v ≡ u)). subst (λ (z : List Snap). StartsWith snaps z) t.1 k)
    (λ (t : (j ≢ seat) × (get_elem? known j ≡ some u)). h j u t.1)
    (at_set known seat j v u e)

pub forks : (seat : ℕ) (v : List Snap) → Forks Keeps seat v v v
forks seat v shown known h at = record {
  snaps = h.snaps;
  shows = h.shows;
  rises = h.rises;
  begins = λ j u e.
      ⊎_elim (set_begins h.snaps known seat v h.begins (h.begins seat v at) j u)
      (λ (same : v ≡ u). subst (λ (z : List Snap). StartsWith h.snaps z) same (h.begins seat v at))
      (at_snoc (set known seat v) v u j e);
}

pub merges : (seat : ℕ) (v : List Snap) (other : ℕ) (w : List Snap) → Merges Keeps seat v other w (longer v w) []
merges seat v other w shown known h at apart there =
    let a : StartsWith h.snaps v = h.begins seat v at in
    let b : StartsWith h.snaps w =
    ⊎_elim (λ (t : (other ≡ seat) × (longer v w ≡ w)). absurd (apart t.0))
    (λ (t : (other ≢ seat) × (get_elem? known other ≡ some w)). h.begins other w t.1)
    (at_set known seat other (longer v w) w there) in
    let both : StartsWith h.snaps (longer v w) = longer_begins h.snaps v w a b in record {
      snaps = h.snaps;
      shows = h.shows;
      rises = h.rises;
      begins = set_begins h.snaps (set known seat (longer v w)) other [] (set_begins h.snaps known seat (longer v w) h.begins both) (begins_nil h.snaps);
    }
