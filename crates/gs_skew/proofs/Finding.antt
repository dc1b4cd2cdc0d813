-- The first item that passes a test.
use Rattle.std.proofs.Common.{◌≡◌, ℕ, zero, suc, ◌+◌, ◌<◌, arith, ap, refl, ◌∙◌, List, [], ◌∷◌, Bool, true, false, cond, Some, None, length, get_or, take}
use Rattle.std.specs.List.{find}
use Rattle.std.proofs.lemmas.List.{take_more}
use Rattle.std.proofs.lemmas.List.Folds.{find-append}

-- the first that passes stands after items of which none does
pub find_here : {X : Type 0} (p : X → Bool) (xs : List X) (i : ℕ) (d : X) → i < length xs → find p (take i xs) ≡ None → p (get_or xs i d) ≡ true → find p xs ≡ Some (get_or xs i d)
find_here p [] i d h none passes = absurd (omega (arith, h))
find_here p (x ∷ xs) zero d h none passes = rw passes refl
find_here {X} p (x ∷ xs) (suc i) d h none passes = pick (p x) refl none (λ later. find_here p xs i d (omega (arith, h)) later passes) where
  pick : (b : Bool) → p x ≡ b → cond b (Some x) (find p (take i xs)) ≡ None → (find p (take i xs) ≡ None → find p xs ≡ Some (get_or xs i d)) → find p (x ∷ xs) ≡ Some (get_or xs i d)
  pick true is h rest = absurd (cc)
  pick false is later rest = rw is (rest later)

-- one more item that fails
pub find_on : {X : Type 0} (p : X → Bool) (xs : List X) (i : ℕ) (d : X) → i < length xs → find p (take i xs) ≡ None → p (get_or xs i d) ≡ false → find p (take (i + 1) xs) ≡ None
find_on p xs i d h none fails = ap (find p) (take_more xs i d h) ∙ find-append p (take i xs) (get_or xs i d ∷ []) ∙ rw (none, fails) refl

-- no item passes where none is found
pub find_none : {X : Type 0} (p : X → Bool) (xs : List X) (i : ℕ) (d : X) → i < length xs → find p xs ≡ None → p (get_or xs i d) ≡ false
find_none p [] i d h none = absurd (omega (arith, h))
find_none {X} p (x ∷ xs) i d h none = pick (p x) refl none (λ later j hj. find_none p xs j d hj later) i h where
  pick : (b : Bool) → p x ≡ b → cond b (Some x) (find p xs) ≡ None → (find p xs ≡ None → (j : ℕ) → j < length xs → p (get_or xs j d) ≡ false)
      → (i : ℕ) → i < length (x ∷ xs) → p (get_or (x ∷ xs) i d) ≡ false
  pick true is h rest i hi = absurd (cc)
  pick false is h rest zero hi = is
  pick false is h rest (suc j) hi = rest h j (omega (arith, hi))
