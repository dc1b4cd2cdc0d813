-- How many nodes run fast.
use Rattle.std.specs.Prelude.{ℕ, Bool, true, false, filter, length}
use Rattle.gs_units.specs.declared.rate.Mode.{Mode}
use Rattle.gs_units.specs.declared.rate.Mode.TheVariants.{Slow, Fast}
use Rattle.gs_run.specs.World.{World}

abbrev pub is_fast : Mode → Bool
is_fast Slow = false
is_fast Fast = true

-- the number of nodes in the fast mode
abbrev pub fast_in : World → ℕ
fast_in w = length (filter (λ m. is_fast m.node.mode) w.members)
