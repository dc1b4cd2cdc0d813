-- What is left of a trace that is read in place.
use Rattle.std.specs.Prelude.{◌≡◌, ℕ, List, Option, Some, None, ⊤}
use Rattle.gs_core.specs.declared.event.Event.{Event}
use Rattle.gs_core.specs.declared.event.Event.TheVariants as event
use Rattle.gs_trace.specs.declared.scan.Next.{Next}
use Rattle.gs_trace.specs.declared.scan.Next.TheVariants.{Quantum, Tick, Deliver}

-- the events that are left, of the trace of a world of so many nodes
pub record WorldLeft : Type 0 where
  pub nodes : ℕ
  pub events : List Event

-- the event that was taken, where the increments of a quantum are those
abbrev pub event_told : Next → List ℕ → Event
event_told Quantum incs = event.Quantum incs
event_told (Tick v) incs = event.Tick v
event_told (Deliver from to seq) incs = event.Deliver from to seq

-- the increments stay, but where a quantum was taken
abbrev pub KeepsIncs : Option Next → List ℕ → List ℕ → Type 0
KeepsIncs None old new = new ≡ old
KeepsIncs (Some Quantum) old new = ⊤
KeepsIncs (Some (Tick v)) old new = new ≡ old
KeepsIncs (Some (Deliver from to seq)) old new = new ≡ old
