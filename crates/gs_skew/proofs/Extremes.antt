-- The greatest of finitely many differences.
use Rattle.std.proofs.Common.{◌≡◌, ℕ, zero, suc, ◌+◌, ◌<◌, ◌≤◌, ◌⊎◌, inl, inr, arith}
use Rattle.std.proofs.lemmas.Bool.{cases_lt}

-- the best of the first n + 1 is the best of the first n, or the last
better : (n : ℕ) (f g : ℕ → ℕ) (w : ℕ) → w < n → ((u : ℕ) → u < n → f u + g w ≤ f w + g u)
    → (f w + g n < f n + g w) ⊎ (f n + g w ≤ f w + g n) → (w : ℕ) × (w < suc n) × ((u : ℕ) → u < suc n → f u + g w ≤ f w + g u)
better n f g w low best (inl takes) = (
  n,
  omega arith,
  λ u h. elim (cases_lt u n) [
    | inl before ↦ let b = best u before in omega arith
    | inr last ↦ let e : u ≡ n = omega arith in rw e (omega arith)
  ],
)
better n f g w low best (inr keeps) = (
  w,
  omega arith,
  λ u h. elim (cases_lt u n) [
    | inl before ↦ best u before
    | inr last ↦ let e : u ≡ n = omega arith in rw e keeps
  ],
)

-- some number up to n has the greatest f - g
greatest_of : (n : ℕ) (f g : ℕ → ℕ) → (w : ℕ) × (w < suc n) × ((u : ℕ) → u < suc n → f u + g w ≤ f w + g u)
greatest_of zero f g = (0, omega arith, λ u h. let e : u ≡ 0 = omega arith in rw e (omega arith))
greatest_of (suc n) f g =
    let before = greatest_of n f g in
    better (suc n) f g before.0 before.1 before.2 (cases_lt (f before.0 + g (suc n)) (f (suc n) + g before.0))

-- some number below n has the greatest f - g
pub greatest_below : (n : ℕ) (f g : ℕ → ℕ) → 0 < n → (w : ℕ) × (w < n) × ((u : ℕ) → u < n → f u + g w ≤ f w + g u)
greatest_below zero f g h = absurd (omega arith)
greatest_below (suc n) f g h = greatest_of n f g
