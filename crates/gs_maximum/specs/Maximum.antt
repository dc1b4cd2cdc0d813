-- What a node knows of the greatest clock.
use Rattle.std.specs.Prelude.{ℕ, ◌+◌, ◌-◌, max, nat_lt, if◌then◌else◌}
use Rattle.gs_units.specs.Rates.{creep_of}
use Rattle.gs_units.specs.declared.rate.Rate.{Rate}
use Rattle.gs_maximum.specs.declared.maximum.Max.{Max}

-- what was heard of the greatest clock, crept on to a reading
abbrev pub heard_of : Rate → Max → ℕ → ℕ
heard_of rate m now = m.base + creep_of rate (now - m.at)

-- the estimate of the greatest clock at a reading, where the own clock is l
abbrev pub maximum_of : Rate → Max → ℕ → ℕ → ℕ
maximum_of rate m now l = max l (heard_of rate m now)

-- the base after a value came at a reading: a greater one replaces it
abbrev pub raised_to : Rate → Max → ℕ → ℕ → Max
raised_to rate m value now = if nat_lt (heard_of rate m now) value then record { base = value; at = now } else m
