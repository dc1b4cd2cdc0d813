-- The first breach as the calendar of a script has it: the least quantum, then the least receiver, then the least sender.
use Rattle.std.specs.Prelude.{ℕ, zero, suc, Option, Some, None, is_some, position}
use Rattle.std.specs.Option.{option_or}
use Rattle.gs_run.specs.Net.{Net, neighbour, neighbours}
use Rattle.gs_calendar.specs.Breach.{Breach}
use Rattle.gs_calendar.specs.Calendar.{stale_at}
use Rattle.gs_calendar.specs.Course.{Course}
use Rattle.gs_calendar.specs.Events.{nodes_of}

-- the first place among v's neighbours for which quantum t is not allowed
abbrev pub first_stale : Net → Course → ℕ → ℕ → Option ℕ
first_stale net c t v = position (λ x. stale_at net c x v t) (neighbours net v)

-- that place, as a breach
abbrev pub breach_over : Net → ℕ → ℕ → Option ℕ → Option Breach
breach_over net t v None = None
breach_over net t v (Some i) = Some (record { quantum = t; from = neighbour net v i; to = v })

-- the breach of quantum t at one receiver
abbrev pub breach_to : Net → Course → ℕ → ℕ → Option Breach
breach_to net c t v = breach_over net t v (first_stale net c t v)

-- the breach at the least receiver, if there is one
abbrev pub breach_among : Net → Course → ℕ → Option ℕ → Option Breach
breach_among net c t None = None
breach_among net c t (Some v) = breach_to net c t v

-- the breach of quantum t
abbrev pub breach_at : Net → Course → ℕ → Option Breach
breach_at net c t = breach_among net c t (position (λ v. is_some (first_stale net c t v)) (nodes_of net))

-- the first breach by quantum t
abbrev pub breach_upto : Net → Course → ℕ → Option Breach
breach_upto net c zero = None
breach_upto net c (suc t) = option_or (breach_upto net c t) (breach_at net c (suc t))
