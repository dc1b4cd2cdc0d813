-- How a play from unequal clocks goes on: for private functions alone.
use Rattle.std.specs.Prelude.{◌≡◌, ℕ, ◌<◌, List, length, nat_lt, slice_index_or, Option, Some, if◌then◌else◌}
use Rattle.gs_plan.specs.Plans.{bound_of, weight_of}
use Rattle.gs_plan.specs.declared.plan.Plan.{Plan}
use Rattle.gs_skew.specs.Skews.{potential}

-- the last quantum at whose end level s was above its bound, with quantum t, at whose end these are the clocks
abbrev pub marked : Plan → List ℕ → ℕ → ℕ → Option ℕ → Option ℕ
marked p clocks t s last =
    if nat_lt (bound_of p s) (potential (weight_of p) clocks s) then Some t else last

-- the same for each level
abbrev pub AreMarked : Plan → List ℕ → ℕ → List (Option ℕ) → List (Option ℕ) → Type 0
AreMarked p clocks t old new = (s : ℕ) (d : Option ℕ) → s < length old
    → slice_index_or new s d ≡ marked p clocks t s (slice_index_or old s d)
