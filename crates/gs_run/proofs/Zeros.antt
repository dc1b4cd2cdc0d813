-- Readings that all are 0.
use Rattle.std.proofs.Common.{◌≡◌, ℕ, zero, suc, ◌+◌, List, ◌∷◌, map, replicate, ap, refl}
use Rattle.std.specs.List.{range_with_len}

pub zeros_are : (a n : ℕ) → replicate {A = ℕ} n 0 ≡ map (λ v. 0) (range_with_len a n)
zeros_are a zero = refl
zeros_are a (suc n) = ap (λ (l : List ℕ). 0 ∷ l) (zeros_are (a + 1) n)
