-- What holds of all events, from any world: which lists are allowed, and that no clock falls.
use Rattle.std.specs.Prelude.{◌≡◌, ◌≢◌, ◌↔◌, ℕ, ◌<◌, ◌≤◌, List, Some, None, length, take}
use Rattle.gs_core.specs.declared.event.Event.{Event}
use Rattle.gs_run.specs.Net.{Net}
use Rattle.gs_run.specs.Run.{Allowed, first_refused, run}
use Rattle.gs_run.specs.World.{World, clock_in}
use Rattle.gs_run.specs.declared.refused.Refused.{Refused}
use Rattle.gs_run.specs.declared.refused.Refused.TheVariants.{OutOfMemory}

-- a list of events is allowed exactly where none of them is refused first
abbrev pub AllowedWhereNoneIsRefused : Type 0
AllowedWhereNoneIsRefused = (net : Net) (i : ℕ) (w : World) (es : List Event)
    → Allowed net w es ↔ (first_refused net i w es ≡ None)

-- the first refusal is never `OutOfMemory`
abbrev pub NoneWantsMemory : Type 0
NoneWantsMemory = (net : Net) (i : ℕ) (w : World) (es : List Event) (first : ℕ × Refused)
    → first_refused net i w es ≡ Some first → first.1 ≢ OutOfMemory

-- no event makes a clock fall, allowed or not
abbrev pub ClocksNeverFall : Type 0
ClocksNeverFall = (net : Net) (w : World) (es : List Event) (i j v : ℕ) → i ≤ j → v < length w.members
    → clock_in net (run net w (take i es)) v ≤ clock_in net (run net w (take j es)) v
