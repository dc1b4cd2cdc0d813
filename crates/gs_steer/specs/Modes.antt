-- Rule 6: the mode of a node.
use Rattle.std.specs.Prelude.{ℕ, ◌-◌, List, if◌then◌else◌, is_some, nat_le}
use Rattle.gs_units.specs.declared.rate.Mode.{Mode}
use Rattle.gs_units.specs.declared.rate.Mode.TheVariants.{Slow, Fast}
use Rattle.gs_trigger.specs.Triggers.{Sight, fast_level, slow_level}

-- the mode that the maximum m and the clock l decide where neither trigger holds
abbrev pub following_mode : ℕ → ℕ → ℕ → Mode
following_mode iota m l = if nat_le iota (m - l) then Fast else Slow

-- rule 6: the mode that the offsets, the maximum m and the clock l decide
abbrev pub mode_of : ℕ → List Sight → ℕ → ℕ → Mode
mode_of iota sights m l =
    if is_some (fast_level sights) then Fast
    else if is_some (slow_level sights) then Slow
    else following_mode iota m l
