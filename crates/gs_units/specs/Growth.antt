-- What clocks grow by in one quantum and in many.
use Rattle.std.specs.Prelude.{◌≡◌, ℕ, ◌+◌, ◌*◌, ◌≤◌, List, length, sum, All}
use Rattle.gs_units.specs.Rates.{creep_of, steer_of, q_of, g_of, top_of}
use Rattle.gs_units.specs.declared.rate.Rate.{Rate}
use Rattle.gs_units.specs.declared.rate.Mode.TheVariants.{Slow, Fast}

-- h is what a hardware clock may add in one quantum
abbrev pub IsIncrement : Rate → ℕ → Type 0
IsIncrement rate h = (rate.lo ≤ h) × (h ≤ rate.hi)

-- what a quantum of h adds to the clock of each mode and to the creep, where the hardware clock stands x above their
-- base
pub record GrowsBy (rate : Rate) (x h : ℕ) : Type 0 where
  pub slow : steer_of rate Slow (x + h) ≡ steer_of rate Slow x + h
  pub fast_least : steer_of rate Fast x + (rate.lo + q_of rate) ≤ steer_of rate Fast (x + h)
  pub fast_most : steer_of rate Fast (x + h) ≤ steer_of rate Fast x + top_of rate
  pub creep : creep_of rate x + g_of rate ≤ creep_of rate (x + h)

-- Growth, for one quantum
abbrev pub GrowsInEachQuantum : Type 0
GrowsInEachQuantum = (rate : Rate) (x h : ℕ) → IsIncrement rate h → GrowsBy rate x h

-- Growth, for many: the creep of k quanta is at most lo for each
abbrev pub CreepsAtMostByLo : Type 0
CreepsAtMostByLo = (rate : Rate) (hs : List ℕ) → All (IsIncrement rate) hs
    → creep_of rate (sum hs) ≤ rate.lo * length hs
