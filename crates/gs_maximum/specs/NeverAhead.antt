-- No maximum passes the greatest clock. In this file `reached` is what the greatest clock had reached at some time,
-- and `grown` what it has grown by in the k quanta since: at least lo in each.
use Rattle.std.specs.Prelude.{ℕ, ◌+◌, ◌*◌, ◌≤◌}
use Rattle.gs_units.specs.declared.rate.Rate.{Rate}
use Rattle.gs_maximum.specs.Maximum.{heard_of, maximum_of, raised_to}
use Rattle.gs_maximum.specs.declared.maximum.Max.{Max}

-- what was heard stays behind, while it creeps
abbrev pub CreepStaysBehind : Type 0
CreepStaysBehind = (rate : Rate) (m : Max) (now k reached grown : ℕ)
    → m.base ≤ reached → now ≤ m.at + rate.hi * k → rate.lo * k ≤ grown → heard_of rate m now ≤ reached + grown

-- a beacon's maximum stays behind, when it is raised for a way of at least `delay_min` quanta
abbrev pub JumpStaysBehind : Type 0
JumpStaysBehind = (rate : Rate) (told delay_min k reached grown : ℕ)
    → told ≤ reached → delay_min ≤ k → rate.lo * k ≤ grown → told + rate.lo * delay_min ≤ reached + grown

-- so a beacon raises no base above what the greatest clock has reached
abbrev pub HearingStaysBehind : Type 0
HearingStaysBehind = (rate : Rate) (m : Max) (value now reached : ℕ)
    → heard_of rate m now ≤ reached → value ≤ reached → heard_of rate (raised_to rate m value now) now ≤ reached

-- nor does the estimate pass it, whose own clock is one of the clocks
abbrev pub EstimateStaysBehind : Type 0
EstimateStaysBehind = (rate : Rate) (m : Max) (now l reached : ℕ)
    → heard_of rate m now ≤ reached → l ≤ reached → maximum_of rate m now l ≤ reached
