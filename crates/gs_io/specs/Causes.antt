-- Counts of faults: what it is that one rose.
use Rattle.std.specs.Prelude.{ℕ, ◌+◌, ◌-◌, ◌^◌, ◌<◌, ◌≤◌, ◌==◌, ◌⊎◌, min, Bool, List, Result, IsErr}
use Rattle.std.specs.List.{list_any}

-- a count rose, or stands at the end of its type
abbrev pub Rose : ℕ → ℕ → Type 0
Rose before now = (before < now) ⊎ (2 ^ 64 - 1 ≤ now)

-- a count after one more, which stays at the end of its type
abbrev pub counted : ℕ → ℕ
counted n = min (n + 1) (2 ^ 64 - 1)

-- the call of this number is one of those that are to fail
abbrev pub is_to_fail : List ℕ → ℕ → Bool
is_to_fail fails call = list_any (λ number. number == call) fails

-- a call never lowers the count of faults, and fails only where that count rose
pub record HasCause {T E : Type 0} (before now : ℕ) (result : Result T E) : Type 0 where
  pub later : before ≤ now
  pub failed : IsErr result → Rose before now
