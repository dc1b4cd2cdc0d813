-- The laws of scripts: what a script's events can be refused for.
use Rattle.std.specs.Prelude.{◌≡◌, ℕ, ◌+◌, ◌<◌, List, None, Some, length, take}
use Rattle.gs_core.specs.declared.event.Event.{Event}
use Rattle.gs_plan.specs.Plans.{text_of}
use Rattle.gs_plan.specs.declared.plan.Plan.{Plan}
use Rattle.gs_script.specs.Script.{Said, IsScript}
use Rattle.gs_run.specs.Net.{Net}
use Rattle.gs_run.specs.Nets.{net_of}
use Rattle.gs_run.specs.Run.{Allowed, first_refused, run}
use Rattle.gs_run.specs.World.{World}
use Rattle.gs_run.specs.declared.refused.Refused.TheVariants.{Stale}
use Rattle.gs_calendar.specs.Breach.{Breach}
use Rattle.gs_calendar.specs.Calm.{Calm}
use Rattle.gs_calendar.specs.Course.{course_of}
use Rattle.gs_calendar.specs.Events.{events_of}
use Rattle.gs_calendar.specs.Losses.{LosesFew}
use Rattle.gs_calendar.specs.Scripts.{start_of}
use Rattle.gs_calendar.specs.Scripts.{breach_of_script}
use Rattle.gs_calendar.specs.Stale.{breach_upto}

-- the event at place k is the first that is refused, where i went before, and this breach is why
pub record IsFirstRefusal (net : Net) (i : ℕ) (w : World) (es : List Event) (b : Breach) (k : ℕ) : Type 0 where
  pub inside : k < length es
  pub refusal : first_refused net i w es ≡ Some (i + k, Stale b.from b.to)
  pub quantum : (run net w (take k es)).quanta + 1 ≡ b.quantum
  pub before : Allowed net w (take k es)

-- of the events of a script that was read for the plan nothing is refused but quanta, and those for staleness alone
abbrev pub ScriptsAreCalm : Type 0
ScriptsAreCalm = (p : Plan) (s : Said) → s.text ≡ text_of p → IsScript s
    → Calm (net_of p) (start_of (net_of p)) (events_of (net_of p) (course_of s))

-- without a breach all events are allowed
abbrev pub UnbreachedAreAllowed : Type 0
UnbreachedAreAllowed = (p : Plan) (s : Said) → s.text ≡ text_of p → IsScript s → breach_of_script p s ≡ None
    → Allowed (net_of p) (start_of (net_of p)) (events_of (net_of p) (course_of s))

-- and a breach is the first refusal
abbrev pub BreachesAreFirst : Type 0
BreachesAreFirst = (p : Plan) (s : Said) (b : Breach) → s.text ≡ text_of p → IsScript s → breach_of_script p s ≡ Some b
    → (k : ℕ) × IsFirstRefusal (net_of p) 0 (start_of (net_of p)) (events_of (net_of p) (course_of s)) b k

-- and it follows from the plan and the script alone, whatever the clocks: it is the calendar's
abbrev pub BreachesAreTheCalendars : Type 0
BreachesAreTheCalendars = (p : Plan) (s : Said) → s.text ≡ text_of p → IsScript s
    → breach_of_script p s ≡ breach_upto (net_of p) (course_of s) s.quanta

-- The beacon-bound law: a script that loses no more beacons in a row than its plan allows for has no breach.
abbrev pub FewLossesNeverBreach : Type 0
FewLossesNeverBreach = (p : Plan) (s : Said) → s.text ≡ text_of p → IsScript s → LosesFew p s
    → breach_of_script p s ≡ None
