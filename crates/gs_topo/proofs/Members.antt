-- Members of lists that are made by a filter, a map or a range.
use Rattle.std.proofs.Common.{◌≡◌, ℕ, ◌+◌, ◌-◌, ◌<◌, ◌≤◌, ◌⊎◌, inl, inr, arith, ap, sym, refl, ◌∙◌, List, [], ◌∷◌, length, map, cond, Bool, true, false, All, filter}
use Rattle.std.specs.List.{Contains, range_with_len, list_any}
use Rattle.std.proofs.lemmas.List.Elements.{Contains-append_left, Contains-append_right, Contains-append_cases, Contains-push, Contains-push_cases}
use Rattle.std.proofs.lemmas.List.FromFn.{length-range_with_len, get_or-range_with_len}
use Rattle.std.proofs.lemmas.List.Folds.{list_any_at, Any-from_list_any}

-- nothing is in an empty list, and one thing in a list of one
pub none : {X : Type 0} (y : X) → Contains [] y → ⊥
none y h = omega (arith, h.1)

pub only : {X : Type 0} (x y : X) → Contains (x ∷ []) y → x ≡ y
only x y h = elim (Contains-push_cases [] x y h) [ inl before ↦ absurd (none y before) | inr same ↦ same ]

pub no_members : {X : Type 0} (xs : List X) → length xs ≤ 0 → xs ≡ []
no_members [] h = refl
no_members (x ∷ xs) h = absurd (omega (arith, h))

pub head_member : {X : Type 0} (x : X) (xs : List X) → Contains (x ∷ xs) x
head_member x xs = Contains-append_left (x ∷ []) xs x (Contains-push [] x)

pub tail_member : {X : Type 0} (x y : X) (xs : List X) → Contains xs y → Contains (x ∷ xs) y
tail_member x y xs h = Contains-append_right (x ∷ []) xs y h

pub member_cases : {X : Type 0} (x y : X) (xs : List X) → Contains (x ∷ xs) y → (x ≡ y) ⊎ Contains xs y
member_cases x y xs h = elim (Contains-append_cases (x ∷ []) xs y h) [ inl first ↦ inl (only x y first) | inr rest ↦ inr rest ]

-- what passes is in the filtered list
one_filtered : {X : Type 0} (p : X → Bool) (y : X) (xs : List X) (x : X) → p x ≡ true → (b : Bool) → p y ≡ b → (y ≡ x) ⊎ Contains xs x → (Contains xs x → Contains (filter p xs) x)
    → Contains (cond b (y ∷ filter p xs) (filter p xs)) x
one_filtered p y xs x passes true here (inl same) rest = rw (← same) (head_member y (filter p xs))
one_filtered p y xs x passes true here (inr later) rest = tail_member y x (filter p xs) (rest later)
one_filtered p y xs x passes false here (inl same) rest = let e : p x ≡ false = ap p (sym same) ∙ here in let clash : true ≡ false = sym passes ∙ e in cc
one_filtered p y xs x passes false here (inr later) rest = rest later

pub Contains-filter : {X : Type 0} (p : X → Bool) (xs : List X) (x : X) → p x ≡ true → Contains xs x → Contains (filter p xs) x
Contains-filter p [] x passes h = absurd (none x h)
Contains-filter p (y ∷ xs) x passes h = one_filtered p y xs x passes (p y) refl (member_cases y x xs h) (Contains-filter p xs x passes)

pub Contains-map : {X Y : Type 0} (f : X → Y) (xs : List X) (x : X) → Contains xs x → Contains (map f xs) (f x)
Contains-map f [] x h = absurd (none x h)
Contains-map f (y ∷ xs) x h = elim (member_cases y x xs h) [
  | inl same ↦ rw (← same) (head_member (f y) (map f xs))
  | inr later ↦ tail_member (f y) (f x) (map f xs) (Contains-map f xs x later)
]

pub Contains-range : (a n x : ℕ) → a ≤ x → x < a + n → Contains (range_with_len a n) x
Contains-range a n x low high = (x - a, rw (length-range_with_len a n) (omega arith), get_or-range_with_len a n (x - a) x (omega arith) ∙ omega arith)

pub range_below : (a n : ℕ) → All (λ x. (a ≤ x) × (x < a + n)) (range_with_len a n)
range_below a n k d h =
    let inside : k < n = rw (length-range_with_len a n) at h in
    rw (get_or-range_with_len a n k d inside) (omega arith, omega arith)

-- a member that passes settles a test
pub list_any-from_member : {X : Type 0} (p : X → Bool) (xs : List X) (x : X) → p x ≡ true → Contains xs x → list_any p xs ≡ true
list_any-from_member p xs x passes h = list_any_at p xs h.0 x h.1 (ap p h.2 ∙ passes)

-- a test that succeeds has such a member
pub member-from_list_any : {X : Type 0} (p : X → Bool) (xs : List X) → list_any p xs ≡ true → (x : X) × Contains xs x × (p x ≡ true)
member-from_list_any p xs h =
    let a = Any-from_list_any p xs h in
    (a.1, (a.0, a.2, a.3), a.4)
