-- What the search for the least number finds.
use Rattle.std.proofs.Common.{◌≡◌, ℕ, zero, suc, ◌+◌, ◌<◌, ◌≤◌, ◌⊎◌, inl, inr, arith, Bool, true, false, if◌then◌else◌, Option, Some, None, is_some, refl}
use Rattle.std.specs.List.{find, range_with_len}

from_or_later : (from s : ℕ) → from ≤ s → (from ≡ s) ⊎ (from < s)
from_or_later from s h = grind arith

-- the first number that passes is what the search finds
pub found_first : (test : ℕ → Bool) (from n s : ℕ) → from ≤ s → s < from + n → test s ≡ true
    → ((t : ℕ) → from ≤ t → t < s → test t ≡ false) → find test (range_with_len from n) ≡ Some s
found_first test from zero s low high passes before = absurd (omega arith)
found_first test from (suc n) s low high passes before =
    elim (from_or_later from s low) [
      | inl same ↦ rw (same, passes)
      | inr later ↦ rw (before from (omega arith) later) (found_first test (from + 1) n s (omega arith) (omega arith) passes (λ t h g. before t (omega arith) g))
    ]

or_found : (b : Bool) (x : ℕ) (rest : Option ℕ) → is_some rest ≡ true → is_some (if b then Some x else rest) ≡ true
or_found true x rest found = refl
or_found false x rest found = found

-- something is found where something passes
pub found_some : (test : ℕ → Bool) (from n s : ℕ) → from ≤ s → s < from + n → test s ≡ true → is_some (find test (range_with_len from n)) ≡ true
found_some test from zero s low high passes = absurd (omega arith)
found_some test from (suc n) s low high passes = elim (from_or_later from s low) [
  | inl same ↦ let here : test from ≡ true = rw same passes in rw here refl
  | inr later ↦ or_found (test from) from (find test (range_with_len (from + 1) n)) (found_some test (from + 1) n s (omega arith) (omega arith) passes)
]

-- nothing is found where nothing passes
pub found_none : (test : ℕ → Bool) (from n : ℕ) → ((t : ℕ) → from ≤ t → test t ≡ false) → find test (range_with_len from n) ≡ None
found_none test from zero none = refl
found_none test from (suc n) none = rw (none from (omega arith)) (found_none test (from + 1) n (λ t h. none t (omega arith)))
