-- The error of one edge, as a law on numbers. Delays and ages are in quanta, clocks in clock units.
use Rattle.std.specs.Prelude.{◌≡◌, ℕ, ◌+◌, ◌-◌, ◌*◌, ◌/◌, ◌≤◌}
use Rattle.gs_units.specs.Rates.{drift_of, top_of, delay_comp, delay_spread}
use Rattle.gs_units.specs.declared.rate.Rate.{Rate}
use Rattle.gs_estimate.specs.Entries.{estimate_of}
use Rattle.gs_estimate.specs.declared.slots.Entry.{Entry}

-- what k quanta may add, where each adds least to most
abbrev pub IsGrowth : ℕ → ℕ → ℕ → ℕ → Type 0
IsGrowth least most k x = (least * k ≤ x) × (x ≤ most * k)

-- what k quanta may add to a hardware reading
abbrev pub IsReadingGrowth : Rate → ℕ → ℕ → Type 0
IsReadingGrowth rate k x = IsGrowth rate.lo rate.hi k x

-- what k quanta may add to a logical clock
abbrev pub IsClockGrowth : Rate → ℕ → ℕ → Type 0
IsClockGrowth rate k x = IsGrowth rate.lo (top_of rate) k x

-- the delay of an edge, from the least to the greatest
abbrev pub IsDelay : ℕ → ℕ → ℕ → Type 0
IsDelay delay_min delay_max k = (delay_min ≤ k) × (k ≤ delay_max)

-- an estimate is as close to the true clock as the drift and the spread of the delays allow
pub record IsClose (drift spread estimate clock : ℕ) : Type 0 where
  pub most : estimate ≤ clock + drift + spread / 2
  pub least : clock ≤ estimate + drift + (spread + 1) / 2

-- An entry that a beacon gave: it told the clock, was `way` quanta under way, and was heard `kept` quanta ago. Its
-- estimate is close to what the clock has grown to.
abbrev pub BeaconIsClose : Type 0
BeaconIsClose = (rate : Rate) (delay_min delay_max way kept age clock grown : ℕ) (e : Entry) (now : ℕ)
    → IsDelay delay_min delay_max way → way + kept ≤ age
    → e.value ≡ clock + delay_comp rate.lo delay_min delay_max
    → IsReadingGrowth rate kept (now - e.at) → IsClockGrowth rate (way + kept) grown
    → IsClose (drift_of rate * age) (delay_spread rate.lo delay_min delay_max) (estimate_of e now) (clock + grown)

-- So is the entry of a start from equal clocks, `kept` quanta ago.
abbrev pub StartIsClose : Type 0
StartIsClose = (rate : Rate) (spread kept age clock grown : ℕ) (e : Entry) (now : ℕ)
    → kept ≤ age → e.value ≡ clock → IsReadingGrowth rate kept (now - e.at) → IsClockGrowth rate kept grown
    → IsClose (drift_of rate * age) spread (estimate_of e now) (clock + grown)

-- A decision uses the estimate for at most `tick` quanta, in which the own clock and the neighbour's grow on. Its
-- offset is as close to the true one, with the drift of these quanta more. (Offsets are differences to the own clock,
-- so what that has grown by stands on the side of the estimate.)
abbrev pub OffsetStaysClose : Type 0
OffsetStaysClose = (rate : Rate) (spread age tick since estimate clock own_grown grown : ℕ)
    → IsClose (drift_of rate * age) spread estimate clock → since ≤ tick
    → IsClockGrowth rate since own_grown → IsClockGrowth rate since grown
    → IsClose (drift_of rate * (age + tick)) spread (estimate + own_grown) (clock + grown)
