-- For private functions: ticks at which neither trigger can hold.
use Rattle.std.specs.Prelude.{ℕ, ◌+◌, ◌*◌, ◌&&◌, Bool, nat_lt, List}
use Rattle.std.specs.List.{list_all, zip}
use Rattle.gs_units.specs.declared.params.Link.{Link}
use Rattle.gs_estimate.specs.Entries.{estimate_of}
use Rattle.gs_estimate.specs.declared.slots.Entry.{Entry}

-- a neighbour is too near to the clock l for the first level of either trigger
abbrev pub is_near : ℕ → ℕ → Link × Entry → Bool
is_near l now x =
    nat_lt (estimate_of x.1 now + x.0.delta) (l + x.0.kappa) && nat_lt (l + x.0.delta) (estimate_of x.1 now + 2 * x.0.kappa)

-- all neighbours are
abbrev pub is_quiet : ℕ → ℕ → List Link → List Entry → Bool
is_quiet l now links entries = list_all (is_near l now) (zip links entries)
