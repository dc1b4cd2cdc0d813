-- How long a value stays the same.
use Rattle.std.specs.Prelude.{◌≡◌, ℕ, ◌≤◌}

-- x is the value in quantum t, and in each quantum from there up to u
pub record Lasts {A : Type 0} (f : ℕ → A) (t u : ℕ) (x : A) : Type 0 where
  pub here : t ≤ u
  pub same : (i : ℕ) → t ≤ i → i ≤ u → f i ≡ x
