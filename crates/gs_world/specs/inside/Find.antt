-- Where a beacon stands: for private functions alone.
use Rattle.std.specs.Prelude.{ℕ, ◌-◌, ◌==◌, List, Option, None, slice_get, if◌then◌else◌}
use Rattle.gs_run.specs.World.{Sent}

-- the beacon of this number among all that a node sent, the first of which has the number 1
abbrev pub at_number : List Sent → ℕ → Option Sent
at_number sent number = if number == 0 then None else slice_get sent (number - 1)
