-- The laws of the triggers.
use Rattle.std.specs.Prelude.{ℕ, pos, neg_ℤ, ◌≤ℤ◌, ◌≤◌, List, All}
use Rattle.gs_trigger.specs.Triggers.{Sight, HaveMargins, FastAt, SlowAt}

-- both triggers never hold together, at whatever levels
abbrev pub NeverBoth : Type 0
NeverBoth = (sights : List Sight) (s t : ℕ) → HaveMargins sights → 1 ≤ s → 1 ≤ t → FastAt sights s → ¬ SlowAt sights t

-- the fast trigger holds at no level where no neighbour is ahead by more than its link's delta
abbrev pub NotFastInFront : Type 0
NotFastInFront =
    (sights : List Sight) (s : ℕ) → HaveMargins sights → 1 ≤ s → All (λ x. x.1 ≤ℤ pos x.0.delta) sights
    → ¬ FastAt sights s

-- the slow trigger holds at no level where no neighbour is behind by more than its link's delta
abbrev pub NotSlowAtTheBack : Type 0
NotSlowAtTheBack =
    (sights : List Sight) (s : ℕ) → HaveMargins sights → 1 ≤ s → All (λ x. neg_ℤ (pos x.0.delta) ≤ℤ x.1) sights
    → ¬ SlowAt sights s
