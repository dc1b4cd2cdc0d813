-- The laws of the mode.
use Rattle.std.specs.Prelude.{◌≡◌, ℕ, ◌-◌, ◌<◌, ◌≤◌, List}
use Rattle.gs_units.specs.declared.rate.Mode.TheVariants.{Slow, Fast}
use Rattle.gs_trigger.specs.Triggers.{Sight, HaveMargins, FastAt, SlowAt}
use Rattle.gs_steer.specs.Modes.{mode_of}

-- the fast trigger makes a node fast, wherever the maximum is
abbrev pub FastByTrigger : Type 0
FastByTrigger =
    (iota m l s : ℕ) (sights : List Sight) → HaveMargins sights → 1 ≤ s → FastAt sights s
    → mode_of iota sights m l ≡ Fast

-- the slow trigger makes it slow, wherever the maximum is
abbrev pub SlowByTrigger : Type 0
SlowByTrigger =
    (iota m l s : ℕ) (sights : List Sight) → HaveMargins sights → 1 ≤ s → SlowAt sights s
    → mode_of iota sights m l ≡ Slow

-- a clock that is behind the maximum by iota or more is fast, unless the slow trigger holds
abbrev pub FastFarBehind : Type 0
FastFarBehind =
    (iota m l : ℕ) (sights : List Sight) → ((s : ℕ) → 1 ≤ s → ¬ SlowAt sights s) → iota ≤ m - l
    → mode_of iota sights m l ≡ Fast

-- a clock that is behind the maximum by less than iota is slow, unless the fast trigger holds
abbrev pub SlowNearMaximum : Type 0
SlowNearMaximum =
    (iota m l : ℕ) (sights : List Sight) → ((s : ℕ) → 1 ≤ s → ¬ FastAt sights s) → m - l < iota
    → mode_of iota sights m l ≡ Slow
