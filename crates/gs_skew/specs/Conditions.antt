-- The conditions of one node among the clocks of its neighbours, where k is how far the ends of each edge may be apart.
use Rattle.std.specs.Prelude.{ℕ, ◌+◌, ◌<◌, ◌≤◌}

-- the fast condition: some neighbour is ahead of u by at least k of its edge, and none is behind by more
pub record MeetsFastCondition (n : ℕ) (adj : ℕ → ℕ → Type 0) (k : ℕ → ℕ → ℕ) (clock : ℕ → ℕ) (u : ℕ)
    : Type 0 where
  pub some : (x : ℕ) × (x < n) × adj u x × (clock u + k u x ≤ clock x)
  pub each : (y : ℕ) → y < n → adj u y → clock u ≤ clock y + k u y

-- the slow condition: some neighbour is behind w by at least k of its edge, and none is ahead by more
pub record MeetsSlowCondition (n : ℕ) (adj : ℕ → ℕ → Type 0) (k : ℕ → ℕ → ℕ) (clock : ℕ → ℕ) (w : ℕ)
    : Type 0 where
  pub some : (x : ℕ) × (x < n) × adj w x × (clock x + k w x ≤ clock w)
  pub each : (y : ℕ) → y < n → adj w y → clock y ≤ clock w + k w y
