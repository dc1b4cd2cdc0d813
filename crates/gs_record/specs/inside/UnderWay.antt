-- A trace that is being written. These facts are for private functions and proofs.
use Rattle.std.specs.Prelude.{◌≡◌, ℕ, ◌≤◌, List, ◌++◌, Option, Some, ⊤}
use Rattle.std.specs.List.{flat_map}
use Rattle.gs_core.specs.declared.event.Event.{Event}
use Rattle.gs_io.specs.Causes.{Rose}
use Rattle.gs_io.specs.Held.{Appends, AppendsFront}
use Rattle.gs_plan.specs.declared.plan.Plan.{Plan}
use Rattle.gs_run.specs.Nets.{net_of}
use Rattle.gs_run.specs.World.{World}
use Rattle.gs_script.specs.Script.{Said}
use Rattle.gs_calendar.specs.Breach.{Breach, first_breach}
use Rattle.gs_calendar.specs.Calm.{Calm}
use Rattle.gs_calendar.specs.Scripts.{breach_of_script}
use Rattle.gs_trace.specs.Worlds.{event_bytes}
use Rattle.gs_record.specs.Recorded.{trace_of, up_to_breach}
use Rattle.gs_record.specs.declared.record.RecordStop.{RecordStop}
use Rattle.gs_record.specs.declared.record.RecordStop.TheVariants as stop

-- the writing of one piece ends early
abbrev pub IsCut : List ℕ → Option (List ℕ) → Option (List ℕ) → ℕ → ℕ → RecordStop → Type 0
IsCut piece old new before after stop.Breach = ⊥
IsCut piece old new before after stop.Failed = AppendsFront old new piece × Rose before after
IsCut piece old new before after stop.OutOfMemory = AppendsFront old new piece

-- an event of a script is refused, with this breach or none
abbrev pub IsRefused : Option Breach → RecordStop → Type 0
IsRefused breach stop.Breach = (b : Breach) × (breach ≡ Some b)
IsRefused breach stop.Failed = ⊥
IsRefused breach stop.OutOfMemory = ⊤

-- These events of the script are left in a world of plan q, and the sink, which held `old`, has all before them.
pub record IsRecording (p : Plan) (s : Said) (q : Plan) (w : World) (left : List Event) (old now : Option (List ℕ)) (before faults : ℕ) : Type 0 where
  pub plan : q ≡ p
  pub calm : Calm (net_of p) w left
  pub breach : breach_of_script p s ≡ first_breach (net_of p) w left
  pub written : List ℕ
  pub held : Appends old now written
  pub rest : trace_of p s ≡ written ++ flat_map event_bytes (up_to_breach (net_of p) w left)
  pub later : before ≤ faults
