-- The reading that comes after one at a place.
use Rattle.std.proofs.Common.{◌≡◌, ℕ, zero, suc, ◌+◌, ◌<◌, ◌≤◌, List, [], ◌∷◌, length, drop, refl, arith}
use Rattle.gs_clock.specs.Readings.{rest_of}

-- where there is one behind it, that comes
pub next_comes : (at : ℕ) (readings : List ℕ) → at + 1 < length readings → drop (at + 1) readings ≡ rest_of (drop at readings)
next_comes at [] inside = absurd (omega arith)
next_comes zero (n ∷ []) inside = absurd (omega arith)
next_comes zero (n ∷ next ∷ readings) inside = refl
next_comes (suc at) (n ∷ readings) inside =
    let further : suc at + 1 ≡ suc (at + 1) = omega arith in
    rw further (next_comes at readings (omega arith))

-- the last one comes again
pub last_comes : (at : ℕ) (readings : List ℕ) → at < length readings → length readings ≤ at + 1 → drop at readings ≡ rest_of (drop at readings)
last_comes at [] inside last = absurd (omega arith)
last_comes zero (n ∷ []) inside last = refl
last_comes zero (n ∷ next ∷ readings) inside last = absurd (omega arith)
last_comes (suc at) (n ∷ readings) inside last = last_comes at readings (omega arith) (omega arith)
