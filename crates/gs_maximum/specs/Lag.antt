-- How far a maximum may lag behind the greatest clock. Ages and delays are in quanta.
use Rattle.std.specs.Prelude.{ℕ, ◌+◌, ◌-◌, ◌*◌, ◌≤◌}
use Rattle.gs_units.specs.Rates.{g_of}
use Rattle.gs_units.specs.declared.rate.Rate.{Rate}
use Rattle.gs_maximum.specs.Maximum.{heard_of, raised_to}
use Rattle.gs_maximum.specs.declared.maximum.Max.{Max}

-- The maximum m tells of the value that a maximum or a clock had `since` quanta ago, at most `age`: the value has
-- crept on by at least g in each, and at most `slack` of it was lost on the way.
pub record Tells (rate : Rate) (age slack value since m : ℕ) : Type 0 where
  pub recent : since ≤ age
  pub crept : value + g_of rate * since ≤ m + slack

-- what was heard is no less than before, and no less than a value
pub record IsRaised (rate : Rate) (old new : Max) (value now : ℕ) : Type 0 where
  pub kept : heard_of rate old now ≤ heard_of rate new now
  pub reached : value ≤ heard_of rate new now

-- so it is after the value was heard
abbrev pub HearingRaises : Type 0
HearingRaises = (rate : Rate) (m : Max) (value now : ℕ) → IsRaised rate m (raised_to rate m value now) value now

-- what was heard creeps on by at least g in each of k quanta
abbrev pub HeardCreeps : Type 0
HeardCreeps = (rate : Rate) (m : Max) (now later k : ℕ)
    → m.at ≤ now → now + rate.lo * k ≤ later → heard_of rate m now + g_of rate * k ≤ heard_of rate m later

-- One hop: a maximum was told, was `way` quanta under way, and raised what was heard to at least itself and lo for
-- each quantum of the least delay; that has crept for `kept` quanta since. What is lost is at most the spread of the
-- delays.
abbrev pub HopTells : Type 0
HopTells = (rate : Rate) (delay_min delay_max way kept age told heard m : ℕ)
    → delay_min ≤ way → way ≤ delay_max → way + kept ≤ age
    → told + rate.lo * delay_min ≤ heard → heard + g_of rate * kept ≤ m
    → Tells rate age (rate.lo * (delay_max - delay_min)) told (way + kept) m

-- hop after hop, ages and slacks add up
abbrev pub HopsTell : Type 0
HopsTell = (rate : Rate) (age slack hop_age hop_slack value since between hop m : ℕ)
    → Tells rate age slack value since between → Tells rate hop_age hop_slack between hop m
    → Tells rate (age + hop_age) (slack + hop_slack) value (since + hop) m

-- who tells of a clock also tells of it as it was k quanta earlier
abbrev pub EarlierIsTold : Type 0
EarlierIsTold = (rate : Rate) (age slack value since m earlier k : ℕ)
    → Tells rate age slack value since m → earlier + rate.lo * k ≤ value → since + k ≤ age
    → Tells rate age slack earlier (since + k) m

-- Each hop adds at most (hi - g) * age + slack to the lag behind the greatest clock, which has grown by at most hi in
-- each quantum since.
abbrev pub LagPerHop : Type 0
LagPerHop = (rate : Rate) (hops age slack value since m greatest lag grown : ℕ)
    → Tells rate (hops * age) (hops * slack) value since m → greatest ≤ value + lag → grown ≤ rate.hi * since
    → greatest + grown ≤ m + lag + hops * ((rate.hi - g_of rate) * age + slack)
