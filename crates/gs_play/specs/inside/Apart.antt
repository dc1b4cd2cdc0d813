-- For private functions and proofs: how far clocks move apart.
use Rattle.std.specs.Prelude.{ℕ, nat_eq, if◌then◌else◌}
use Rattle.gs_units.specs.Rates.{drift_of, r_of}
use Rattle.gs_units.specs.declared.rate.Rate.{Rate}

-- how far two clocks may move apart in a quantum that so many nodes take in the fast mode
abbrev pub most_apart : Rate → ℕ → ℕ
most_apart rate fast = if nat_eq fast 0 then r_of rate else drift_of rate
