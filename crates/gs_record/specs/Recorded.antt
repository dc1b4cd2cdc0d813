-- The trace of a script, and how its writing ends early.
use Rattle.std.specs.Prelude.{◌≡◌, ℕ, List, [], ◌∷◌, ◌++◌, Option, Some, None, replicate}
use Rattle.std.specs.List.{flat_map}
use Rattle.gs_core.specs.declared.event.Event.{Event}
use Rattle.gs_io.specs.Causes.{Rose}
use Rattle.gs_io.specs.Held.{Appends, AppendsFront}
use Rattle.gs_plan.specs.Plans.{graph_of, text_of}
use Rattle.gs_plan.specs.declared.plan.Plan.{Plan}
use Rattle.gs_run.specs.Net.{Net}
use Rattle.gs_run.specs.Nets.{net_of}
use Rattle.gs_run.specs.World.{World, effect}
use Rattle.gs_script.specs.Script.{Said}
use Rattle.gs_calendar.specs.Breach.{Breach, breach_in}
use Rattle.gs_calendar.specs.Course.{course_of}
use Rattle.gs_calendar.specs.Events.{events_of}
use Rattle.gs_calendar.specs.Scripts.{breach_of_script, start_of}
use Rattle.gs_trace.specs.Worlds.{event_bytes, head_bytes}
use Rattle.gs_trace.specs.declared.start.WorldStart.{WorldStart}
use Rattle.gs_record.specs.declared.record.RecordStop.{RecordStop}
use Rattle.gs_record.specs.declared.record.RecordStop.TheVariants as stop

-- what comes after an event, which is this breach or none
abbrev pub unless_breach : Option Breach → List Event → List Event
unless_breach (Some breach) rest = []
unless_breach None rest = rest

-- the events of a list up to and with its first breach, each in the world after those before it
abbrev pub up_to_breach : Net → World → List Event → List Event
up_to_breach net w [] = []
up_to_breach net w (e ∷ es) = e ∷ unless_breach (breach_in net w e) (up_to_breach net (effect net w e) es)

-- where the worlds of scripts start: all readings and all clocks at 0
abbrev pub start_at_0 : ℕ → WorldStart
start_at_0 nodes = record { l0 = 0; hw = replicate nodes 0 }

-- the head of the traces of scripts on a plan
abbrev pub head_of : Plan → List ℕ
head_of plan = head_bytes (text_of plan).cluster (graph_of plan).nodes (start_at_0 (graph_of plan).nodes)

-- the events of a script that its trace tells
abbrev pub recorded : Plan → Said → List Event
recorded plan said = up_to_breach (net_of plan) (start_of (net_of plan)) (events_of (net_of plan) (course_of said))

-- The trace of a script: the head, and then its events up to and with the first breach.
abbrev pub trace_of : Plan → Said → List ℕ
trace_of plan said = head_of plan ++ flat_map event_bytes (recorded plan said)

-- How the writing of a trace ends before the script's last event, where `old` and `new` are the bytes of the sink, and
-- `before` and `after` its counts of faults: with a breach the trace is whole, else a prefix of it was written.
abbrev pub EndsAt : Plan → Said → Option (List ℕ) → Option (List ℕ) → ℕ → ℕ → RecordStop → Type 0
EndsAt plan said old new before after stop.Breach =
    ((breach : Breach) × (breach_of_script plan said ≡ Some breach)) × Appends old new (trace_of plan said)
EndsAt plan said old new before after stop.Failed = AppendsFront old new (trace_of plan said) × Rose before after
EndsAt plan said old new before after stop.OutOfMemory = AppendsFront old new (trace_of plan said)
