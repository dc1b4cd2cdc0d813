-- Clocks that never fall.
use Rattle.std.proofs.Common.{◌≡◌, ℕ, ◌≤◌, List, [], ◌∷◌, ◌++◌, refl, Bool, true, false, nat_le, if◌then◌else◌, arith}
use Rattle.std.proofs.lemmas.Bool.Decides.{nat_tests}
use Rattle.gs_respond.specs.Doors.{never_falls}

both : (test x y : Bool) → (x ≡ true → y ≡ true) → (if test then x else false) ≡ true → (if test then y else false) ≡ true
both true x y f h = f h
both false x y f h = h

-- a later clock may stand in place of the last
pub rises_to : (clocks : List ℕ) (a b : ℕ) → a ≤ b → never_falls (clocks ++ a ∷ []) ≡ true → never_falls (clocks ++ b ∷ []) ≡ true
rises_to [] a b le h = refl
rises_to (c ∷ []) a b le h = grind (arith, nat_tests)
rises_to (c ∷ d ∷ clocks) a b le h = both (nat_le c d) _ _ (rises_to (d ∷ clocks) a b le) h

twice : (b : ℕ) → (if nat_le b b then true else false) ≡ true
twice b = grind (arith, nat_tests)

-- and stand there twice
pub rises_twice : (clocks : List ℕ) (b : ℕ) → never_falls (clocks ++ b ∷ []) ≡ true → never_falls ((clocks ++ b ∷ []) ++ b ∷ []) ≡ true
rises_twice [] b h = twice b
rises_twice (c ∷ []) b h = both (nat_le c b) true _ (λ _. twice b) h
rises_twice (c ∷ d ∷ clocks) b h = both (nat_le c d) _ _ (rises_twice (d ∷ clocks) b) h

-- nor do they without the last
pub before_last : (clocks : List ℕ) (a : ℕ) → never_falls (clocks ++ a ∷ []) ≡ true → never_falls clocks ≡ true
before_last [] a h = refl
before_last (c ∷ []) a h = refl
before_last (c ∷ d ∷ clocks) a h = both (nat_le c d) _ _ (before_last (d ∷ clocks) a) h
