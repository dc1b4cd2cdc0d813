-- What one pass over links and offsets finds.
use Rattle.std.proofs.Common.{◌≡◌, ℕ, ℤ, zero, suc, ◌<◌, ◌≤◌, List, [], ◌∷◌, length, slice_index_or, All, Any, max, arith, refl, sym, subst}
use Rattle.std.proofs.lemmas.List.Elements.{All-cons, All-head, All-tail, All-nil}
use Rattle.std.specs.List.{zip}
use Rattle.gs_units.specs.declared.params.Link.{Link}
use Rattle.gs_trigger.specs.Triggers.{Sight}
use Rattle.gs_trigger.specs.inside.Sides.{Reaches, Allows, IsLowestAllowed}
use Rattle.gs_trigger.specs.declared.trigger.Trigger.{Trigger}

-- s is the least level that all neighbours but the rest allow
pub record IsLowestBefore (trigger : Trigger) (all rest : List Sight) (s : ℕ) : Type 0 where
  pub first : 1 ≤ s
  pub allowed : (n : ℕ) → s ≤ n → All (Allows trigger n) rest → All (Allows trigger n) all
  pub least : (n : ℕ) → 1 ≤ n → All (Allows trigger n) all → (s ≤ n) × All (Allows trigger n) rest

pub lowest_goes_on : (trigger : Trigger) (all : List Sight) (links ks : List Link) (offsets vs : List ℤ) (k : Link) (v : ℤ) (s from : ℕ) → links ≡ k ∷ ks → offsets ≡ v ∷ vs
    → IsLowestBefore trigger all (zip links offsets) s → ((n : ℕ) → from ≤ n → Allows trigger n (k, v)) → ((n : ℕ) → 1 ≤ n → Allows trigger n (k, v) → from ≤ n)
    → IsLowestBefore trigger all (zip ks vs) (max from s)
lowest_goes_on trigger all links ks offsets vs k v s from first second before allows least =
    let here : IsLowestBefore trigger all ((k, v) ∷ zip ks vs) s = rw (first, second) at before in
    let one = here.first in
    record {
      first = omega (arith, one);
      allowed = λ n h each. here.allowed n (omega (arith, h)) (All-cons (Allows trigger n) (k, v) (zip ks vs) (allows n (omega (arith, h))) each);
      least = λ n low each.
          let parts = here.least n low each in
          let enough = least n low (All-head (Allows trigger n) (k, v) (zip ks vs) parts.1) in
          (omega (arith, enough, parts.0), All-tail (Allows trigger n) (k, v) (zip ks vs) parts.1);
    }

pub lowest_ends : (trigger : Trigger) (all rest : List Sight) (s : ℕ) → rest ≡ [] → IsLowestBefore trigger all rest s → IsLowestAllowed trigger all s
lowest_ends trigger all rest s empty before =
    let here : IsLowestBefore trigger all [] s = rw empty at before in
    record {
      first = here.first;
      allowed = here.allowed s (omega arith) (All-nil (Allows trigger s));
      least = λ t one each. (here.least t one each).0;
    }

-- where either list has ended, so have the pairs
pub zip-no_links : (links : List Link) (offsets : List ℤ) → length links ≡ 0 → zip links offsets ≡ []
zip-no_links [] offsets e = refl
zip-no_links (k ∷ ks) offsets e = absurd (omega arith)

pub zip-no_offsets : (links : List Link) (offsets : List ℤ) → length offsets ≡ 0 → zip links offsets ≡ []
zip-no_offsets [] offsets e = refl
zip-no_offsets (k ∷ ks) [] e = refl
zip-no_offsets (k ∷ ks) (v ∷ vs) e = absurd (omega arith)

-- some neighbour reaches the level exactly where one of the rest does
abbrev pub AsTheRest : Trigger → ℕ → List Sight → List Sight → Type 0
AsTheRest trigger s all rest = (Any (Reaches trigger s) rest → Any (Reaches trigger s) all) × (Any (Reaches trigger s) all → Any (Reaches trigger s) rest)

Any-first : (P : Sight → Type 0) (x : Sight) (xs : List Sight) → P x → Any P (x ∷ xs)
Any-first P x xs h = (0, x, omega arith, refl, h)

Any-later : (P : Sight → Type 0) (x : Sight) (xs : List Sight) → Any P xs → Any P (x ∷ xs)
Any-later P x xs some = (suc some.0, some.1, (let lt = some.2 in omega (arith, lt)), some.3, some.4)

Any-not_first : (P : Sight → Type 0) (x : Sight) (xs : List Sight) → ¬ P x → (k : ℕ) (y : Sight) → k < length (x ∷ xs) → slice_index_or (x ∷ xs) k y ≡ y → P y → Any P xs
Any-not_first P x xs refused zero y lt at h = absurd (refused (subst P (sym at) h))
Any-not_first P x xs refused (suc k) y lt at h = (k, y, omega arith, at, h)

-- here is one that reaches it
pub Reaches-here : (trigger : Trigger) (s : ℕ) (all : List Sight) (links ks : List Link) (offsets vs : List ℤ) (k : Link) (v : ℤ) → links ≡ k ∷ ks → offsets ≡ v ∷ vs
    → AsTheRest trigger s all (zip links offsets) → Reaches trigger s (k, v) → Any (Reaches trigger s) all
Reaches-here trigger s all links ks offsets vs k v first second same here =
    let so_far : AsTheRest trigger s all ((k, v) ∷ zip ks vs) = rw (first, second) at same in
    so_far.0 (Any-first (Reaches trigger s) (k, v) (zip ks vs) here)

-- this one does not
pub Reaches-later : (trigger : Trigger) (s : ℕ) (all : List Sight) (links ks : List Link) (offsets vs : List ℤ) (k : Link) (v : ℤ) → links ≡ k ∷ ks → offsets ≡ v ∷ vs
    → AsTheRest trigger s all (zip links offsets) → ¬ Reaches trigger s (k, v) → AsTheRest trigger s all (zip ks vs)
Reaches-later trigger s all links ks offsets vs k v first second same refused =
    let so_far : AsTheRest trigger s all ((k, v) ∷ zip ks vs) = rw (first, second) at same in (
      λ some. so_far.0 (Any-later (Reaches trigger s) (k, v) (zip ks vs) some),
      λ some. let found = so_far.1 some in Any-not_first (Reaches trigger s) (k, v) (zip ks vs) refused found.0 found.1 found.2 found.3 found.4,
    )

-- none does
pub Reaches-nowhere : (trigger : Trigger) (s : ℕ) (all rest : List Sight) → rest ≡ [] → AsTheRest trigger s all rest → ¬ Any (Reaches trigger s) all
Reaches-nowhere trigger s all rest empty same some =
    let so_far : AsTheRest trigger s all [] = rw empty at same in
    let found = so_far.1 some in
    let lt : found.0 < 0 = found.2 in
    omega (arith, lt)
