-- Why a play ends with no report.
use Rattle.std.specs.Prelude.{◌≡◌, Option, Some, ⊤}
use Rattle.gs_calendar.specs.Breach.{Breach}
use Rattle.gs_calendar.specs.declared.stop.PlayStop.{PlayStop}
use Rattle.gs_calendar.specs.declared.stop.PlayStop.TheVariants.{Stale, OutOfMemory}

-- It names this breach, or memory was refused.
abbrev pub StopsAt : Option Breach → PlayStop → Type 0
StopsAt breach (Stale quantum from to) = breach ≡ Some (record { quantum = quantum; from = from; to = to })
StopsAt breach OutOfMemory = ⊤
