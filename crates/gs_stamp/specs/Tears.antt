-- What a crash may make of bytes, of which some are torn.
use Rattle.std.specs.Prelude.{◌≡◌, ℕ, List, [], ◌∷◌, length, Bool, false, Some, None, refl}
use Rattle.std.proofs.Common.{arith}

-- what a crash may leave of bytes: those that are torn may be any, and the others stay
abbrev pub Leaves : List Bool → List ℕ → List ℕ → Type 0
Leaves [] [] [] = Unit {0}
Leaves (torn ∷ torns) (byte ∷ bytes) (c ∷ cs) = (torn ≡ false → c ≡ byte) × Leaves torns bytes cs
Leaves _ _ _ = ⊥

pub Leaves-refl : (torns : List Bool) (bytes : List ℕ) → length torns ≡ length bytes → Leaves torns bytes bytes
Leaves-refl [] [] same = tt
Leaves-refl (torn ∷ torns) (byte ∷ bytes) same = ((λ _. refl), Leaves-refl torns bytes (omega arith))
Leaves-refl [] (byte ∷ bytes) same = absurd (omega arith)
Leaves-refl (torn ∷ torns) [] same = absurd (omega arith)

pub Leaves-size : (torns : List Bool) (bytes c : List ℕ) → Leaves torns bytes c → length c ≡ length bytes
Leaves-size [] [] [] left = refl
Leaves-size (torn ∷ torns) (byte ∷ bytes) (c ∷ cs) left = let rest = Leaves-size torns bytes cs left.1 in omega (arith, rest)
Leaves-size [] [] (c ∷ cs) left = absurd left
Leaves-size [] (byte ∷ bytes) c left = absurd left
Leaves-size (torn ∷ torns) [] c left = absurd left
Leaves-size (torn ∷ torns) (byte ∷ bytes) [] left = absurd left

-- a store that tells nothing tells no bytes
pub untold : (c : List ℕ) → None ≡ Some c → ⊥
untold c is = absurd (cc)
