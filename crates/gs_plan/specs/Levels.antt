-- The best level, by its bound.
use Rattle.std.specs.Prelude.{◌≡◌, ℕ, zero, suc, ◌<◌, ◌≤◌, nat_lt, if◌then◌else◌}

-- the lesser of two levels with their values: the new one only where its value is below the old one's
abbrev pub lesser : ℕ × ℕ → ℕ × ℕ → ℕ × ℕ
lesser old new = if nat_lt new.1 old.1 then new else old

-- the first of the levels 0 to `last` at which f is least, with its value there
abbrev pub best_of : (ℕ → ℕ) → ℕ → ℕ × ℕ
best_of f zero = (0, f 0)
best_of f (suc s) = lesser (best_of f s) (suc s, f (suc s))

-- the same in other words
pub record IsBest (f : ℕ → ℕ) (last : ℕ) (best : ℕ × ℕ) : Type 0 where
  pub level : best.0 ≤ last
  pub value : best.1 ≡ f best.0
  pub least : (s : ℕ) → s ≤ last → best.1 ≤ f s
  pub first : (s : ℕ) → s < best.0 → best.1 < f s
