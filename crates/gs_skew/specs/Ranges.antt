-- The least and the greatest of some clocks.
use Rattle.std.specs.Prelude.{ℕ, ◌≤◌, List, All}
use Rattle.std.specs.List.{Contains}

-- these are the least and the greatest of a list
pub record AreEnds (clocks : List ℕ) (least greatest : ℕ) : Type 0 where
  pub has_least : Contains clocks least
  pub none_less : All (λ clock. least ≤ clock) clocks
  pub has_greatest : Contains clocks greatest
  pub none_greater : All (λ clock. clock ≤ greatest) clocks
