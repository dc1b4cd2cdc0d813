-- What is wrong with the numbers of a rate.
use Rattle.std.specs.Prelude.{ℕ, ◌^◌, ◌||◌, ◌==◌, nat_lt, nat_le, [], ◌∷◌, Option}
use Rattle.std.specs.Bool.{then_some}
use Rattle.gs_units.specs.FirstFault.{first_some}
use Rattle.gs_units.specs.declared.rate.RateFault.{RateFault}
use Rattle.gs_units.specs.declared.rate.RateFault.TheVariants.{Low, High, Boost}

-- the first thing that is wrong with the numbers of a rate
abbrev pub rate_fault : ℕ → ℕ → ℕ → Option RateFault
rate_fault lo hi mu = first_some (
    then_some (lo == 0) Low
    ∷ then_some (nat_le hi lo || nat_lt (2 ^ 30) hi) High
    ∷ then_some ((mu == 0) || nat_lt 100000 mu) Boost
    ∷ [])
