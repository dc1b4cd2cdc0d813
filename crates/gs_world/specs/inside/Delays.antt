-- The delays of edges: for private functions alone.
use Rattle.std.specs.Prelude.{ℕ, ◌+◌, [], ◌∷◌, Option, nat_lt}
use Rattle.std.specs.Bool.{then_some}
use Rattle.gs_units.specs.FirstFault.{first_some}
use Rattle.gs_run.specs.Net.{Net}
use Rattle.gs_world.specs.declared.delay.Delay.{Delay}
use Rattle.gs_run.specs.declared.refused.Refused.{Refused}
use Rattle.gs_run.specs.declared.refused.Refused.TheVariants.{Early, Late}

-- how long the beacons of the edge of v and x take
abbrev pub delay_of : Net → ℕ → ℕ → Delay
delay_of net v x = record { delay_min = net.delay_min v x; delay_max = net.delay_max v x }

-- why a newer beacon that was sent in this quantum may not come after so many quanta
abbrev pub age_refused : Delay → ℕ → ℕ → Option Refused
age_refused d sent quanta =
    first_some (then_some (nat_lt quanta (sent + d.delay_min)) Early ∷ then_some (nat_lt (sent + d.delay_max) quanta) Late ∷ [])
