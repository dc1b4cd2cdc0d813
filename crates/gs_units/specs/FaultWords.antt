-- The words for what is wrong with a rate.
use Rattle.std.specs.Prelude.{ℕ, List, codes}
use Rattle.gs_units.specs.declared.rate.RateFault.{RateFault}
use Rattle.gs_units.specs.declared.rate.RateFault.TheVariants.{Low, High, Boost}

-- the number that is wrong
abbrev pub why_of : RateFault → List ℕ
why_of Low = codes "low"
why_of High = codes "high"
why_of Boost = codes "boost"
