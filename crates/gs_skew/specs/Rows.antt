-- Rows of the clocks of n nodes: row 0 is the start, and row t the end of quantum t, up to the last.
use Rattle.std.specs.Prelude.{◌≡◌, ℕ, suc, ◌+◌, ◌-◌, ◌*◌, ◌<◌, ◌≤◌}
use Rattle.gs_skew.specs.Conditions.{MeetsSlowCondition, MeetsFastCondition}

-- How the clocks grow in each quantum: all by at least lo, a node in the fast condition of some level by at least q
-- more, and one in the slow condition by at most hi = lo + r. Level s takes kappa an odd number of times for the fast
-- condition, and an even number for the slow one.
pub record AreSteered (n last : ℕ) (adj : ℕ → ℕ → Type 0) (kappa row : ℕ → ℕ → ℕ)
    (lo r q : ℕ) : Type 0 where
  pub grows : (t u : ℕ) → t < last → u < n → row t u + lo ≤ row (suc t) u
  pub fast : (s t u : ℕ) → 1 ≤ s → t < last → u < n → MeetsFastCondition n adj (λ a b. (2 * s - 1) * kappa a b) (row (suc t)) u
      → row t u + lo + q ≤ row (suc t) u
  pub slow : (s t w : ℕ) → 1 ≤ s → t < last → w < n → MeetsSlowCondition n adj (λ a b. 2 * s * kappa a b) (row (suc t)) w
      → row (suc t) w ≤ row t w + (lo + r)

-- the same from equal clocks, where no two clocks of a row differ by more than skew
pub record AreRows (n last : ℕ) (adj : ℕ → ℕ → Type 0) (kappa row : ℕ → ℕ → ℕ)
    (lo r q skew : ℕ) : Type 0 where
  pub equal : (v w : ℕ) → v < n → w < n → row 0 v ≡ row 0 w
  pub steered : AreSteered n last adj kappa row lo r q
  pub skews : (t v w : ℕ) → t ≤ last → v < n → w < n → row t w ≤ row t v + skew
