-- The bounds of the levels over rows of clocks: G(s) is that of the plans, with G(0) the bound of all differences.
use Rattle.std.specs.Prelude.{ℕ, Bool, IsTrue, ◌+◌, ◌*◌, ◌/◌, ◌<◌, ◌≤◌}
use Rattle.gs_topo.specs.Weights.{Weighs}
use Rattle.gs_units.specs.Rates.{bound_at}
use Rattle.gs_skew.specs.Rows.{AreRows}

-- a network whose clocks are steered from an equal start
pub record IsSteeredNetwork (n last : ℕ) (adj : ℕ → ℕ → Bool) (kappa weight row : ℕ → ℕ → ℕ)
    (lo r q skew : ℕ) : Type 0 where
  pub rows : AreRows n last (λ a b. IsTrue (adj a b)) kappa row lo r q skew
  pub weights : Weighs n (λ a b. IsTrue (adj a b)) kappa weight
  pub drift : 0 < r
  pub strong : r ≤ q

-- no clock w is ahead of another v by more than 2*s*weight(v, w) + G(s)
abbrev pub PairsKeepBounds : Type 0
PairsKeepBounds = (n last : ℕ) (adj : ℕ → ℕ → Bool) (kappa weight row : ℕ → ℕ → ℕ) (lo r q skew : ℕ)
    → IsSteeredNetwork n last adj kappa weight row lo r q skew → (s t v w : ℕ) → t ≤ last → v < n → w < n
    → row t w ≤ row t v + 2 * s * weight v w + bound_at skew (q / r) r s

-- neither end of an edge e is ahead of the other by more than 2*s*kappa(e) + G(s)
abbrev pub EdgesKeepBounds : Type 0
EdgesKeepBounds = (n last : ℕ) (adj : ℕ → ℕ → Bool) (kappa weight row : ℕ → ℕ → ℕ) (lo r q skew : ℕ)
    → IsSteeredNetwork n last adj kappa weight row lo r q skew → (s t v w : ℕ) → t ≤ last → v < n → w < n
    → IsTrue (adj v w) → (row t w ≤ row t v + 2 * s * kappa v w + bound_at skew (q / r) r s)
    × (row t v ≤ row t w + 2 * s * kappa v w + bound_at skew (q / r) r s)
