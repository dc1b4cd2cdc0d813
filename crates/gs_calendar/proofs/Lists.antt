-- Membership in lists, and lists of numbers that ascend.
use Rattle.std.proofs.Common.{◌≡◌, ℕ, zero, suc, ◌+◌, ◌<◌, ◌≤◌, Bool, true, false, cond, ◌⊎◌, inl, inr, arith, refl, ap, List, [], ◌∷◌, ◌++◌, filter, length, slice_index, slice_index_or}
use Rattle.std.specs.List.{range_with_len}
use Rattle.std.proofs.lemmas.Bool.{cases_Bool}
use Rattle.gs_calendar.specs.Transits.{Has}

pub has_more : {X : Type 0} (xs ys : List X) (e : X) → Has e (xs ++ ys) → Has e xs ⊎ Has e ys
unfolding Has
has_more [] ys e h = inr h
has_more (x ∷ xs) ys e h = elim h [ inl same ↦ inl (inl same) | inr rest ↦ elim (has_more xs ys e rest) [ inl a ↦ inl (inr a) | inr b ↦ inr b ] ]

pub has_left : {X : Type 0} (xs ys : List X) (e : X) → Has e xs → Has e (xs ++ ys)
unfolding Has
has_left [] ys e h = absurd h
has_left (x ∷ xs) ys e h = elim h [ inl same ↦ inl same | inr rest ↦ inr (has_left xs ys e rest) ]

pub has_right : {X : Type 0} (xs ys : List X) (e : X) → Has e ys → Has e (xs ++ ys)
unfolding Has
has_right [] ys e h = h
has_right (x ∷ xs) ys e h = inr (has_right xs ys e h)

pub has_at : {X : Type 0} (xs : List X) (i : ℕ) (d : X) → i < length xs → Has (slice_index_or xs i d) xs
unfolding Has
has_at [] i d h = absurd (omega arith)
has_at (x ∷ xs) zero d h = inl refl
has_at (x ∷ xs) (suc i) d h = inr (has_at xs i d (omega arith))

-- ---- ranges and what is left of them
pub has_range : (a n x : ℕ) → Has x (range_with_len a n) → (a ≤ x) × (x < a + n)
unfolding Has
has_range a zero x h = absurd h
has_range a (suc n) x h = elim h [
  | inl same ↦ (omega (arith, same), omega (arith, same))
  | inr rest ↦ let r = has_range (a + 1) n x rest in let low = r.0 in let high = r.1 in (omega arith, omega arith)
]

pub range_has : (a n x : ℕ) → a ≤ x → x < a + n → Has x (range_with_len a n)
unfolding Has
range_has a zero x low high = absurd (omega arith)
range_has a (suc n) x low high = elim (Rattle.std.proofs.lemmas.Bool.cases_eq a x) [ inl same ↦ inl same | inr other ↦ inr (range_has (a + 1) n x (omega arith) (omega arith)) ]

pub has_filter : {X : Type 0} (p : X → Bool) (xs : List X) (e : X) → Has e (filter p xs) → Has e xs × (p e ≡ true)
unfolding Has
has_filter p [] e h = absurd h
has_filter {X} p (x ∷ xs) e h = elim (cases_Bool (p x)) [
  | inl yes_ ↦
      let i : (x ≡ e) ⊎ Has e (filter p xs) = rw yes_ at h in
      elim i [ inl same ↦ (inl same, Rattle.std.proofs.Common.subst (λ (z : X). p z ≡ true) same yes_) | inr rest ↦ let r = has_filter p xs e rest in (inr r.0, r.1) ]
  | inr no_ ↦ let i : Has e (filter p xs) = rw no_ at h in let r = has_filter p xs e i in (inr r.0, r.1)
]

pub filter_has : {X : Type 0} (p : X → Bool) (xs : List X) (e : X) → Has e xs → p e ≡ true → Has e (filter p xs)
unfolding Has
filter_has p [] e h t = absurd h
filter_has {X} p (x ∷ xs) e h t = elim h [
  | inl same ↦ rw (Rattle.std.proofs.Common.subst (λ (z : X). p z ≡ true) (Rattle.std.proofs.Common.sym same) t) (inl same)
  | inr rest ↦ elim (cases_Bool (p x)) [ inl yes_ ↦ rw yes_ (inr (filter_has p xs e rest t)) | inr no_ ↦ rw no_ (filter_has p xs e rest t) ]
]

-- ---- each number is less than all that follow
unfoldable pub Ascend : List ℕ → Type 0
Ascend [] = Unit {0}
Ascend (x ∷ xs) = ((y : ℕ) → Has y xs → x < y) × Ascend xs

range_ascends : (a n : ℕ) → Ascend (range_with_len a n)
unfolding Ascend
range_ascends a zero = tt
range_ascends a (suc n) = ((λ y h. let r = has_range (a + 1) n y h in let low = r.0 in omega arith), range_ascends (a + 1) n)

filter_ascends : (p : ℕ → Bool) (xs : List ℕ) → Ascend xs → Ascend (filter p xs)
unfolding Ascend
filter_ascends p [] a = tt
filter_ascends p (x ∷ xs) a = elim (cases_Bool (p x)) [
  | inl yes_ ↦ rw yes_ ((λ y h. a.0 y (has_filter p xs y h).0), filter_ascends p xs a.1)
  | inr no_ ↦ rw no_ (filter_ascends p xs a.1)
]

pub ascending : (p : ℕ → Bool) (a n : ℕ) → Ascend (filter p (range_with_len a n))
ascending p a n = filter_ascends p (range_with_len a n) (range_ascends a n)

-- so does the one at each place and all at later ones
pub ascend_at : (xs : List ℕ) (k i : ℕ) → Ascend xs → k < i → i < length xs → slice_index xs k < slice_index xs i
unfolding Ascend
ascend_at [] k i up less inside = absurd (omega arith)
ascend_at (x ∷ xs) k zero up less inside = absurd (omega arith)
ascend_at (x ∷ xs) zero (suc i) up less inside = up.0 (slice_index xs i) (has_at xs i 0 (omega arith))
ascend_at (x ∷ xs) (suc k) (suc i) up less inside = ascend_at xs k i up.1 (omega arith) (omega arith)
