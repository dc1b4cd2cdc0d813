-- Runs: events in turn, and the runs whose events are all allowed.
use Rattle.std.specs.Prelude.{◌≡◌, ℕ, ◌+◌, List, [], ◌∷◌, Option, Some, None, ⊤}
use Rattle.gs_core.specs.declared.event.Event.{Event}
use Rattle.gs_core.specs.declared.event.Event.TheVariants.{Quantum, Tick, Deliver}
use Rattle.gs_run.specs.Net.{Net}
use Rattle.gs_run.specs.World.{World, effect}
use Rattle.gs_run.specs.Why.{why}
use Rattle.gs_run.specs.declared.refused.Refused.{Refused}

-- the world after all events
abbrev pub run : Net → World → List Event → World
run net w [] = w
run net w (e ∷ es) = run net (effect net w e) es

-- each event is allowed in the world after those before it
abbrev pub Allowed : Net → World → List Event → Type 0
Allowed net w [] = ⊤
Allowed net w (e ∷ es) = (why net w e ≡ None) × Allowed net (effect net w e) es

-- this refusal of the event at place i, or else a later one
abbrev pub or_refused : Option Refused → ℕ → Option (ℕ × Refused) → Option (ℕ × Refused)
or_refused None i later = later
or_refused (Some r) i later = Some (i, r)

-- the first event that is refused, where i events went before, and why
abbrev pub first_refused : Net → ℕ → World → List Event → Option (ℕ × Refused)
first_refused net i w [] = None
first_refused net i w (e ∷ es) = or_refused (why net w e) i (first_refused net (i + 1) (effect net w e) es)

-- the worlds at the end of each quantum
abbrev pub later_ends : Net → World → List Event → List World
later_ends net w [] = []
later_ends net w (Quantum incs ∷ es) = effect net w (Quantum incs) ∷ later_ends net (effect net w (Quantum incs)) es
later_ends net w (Tick v ∷ es) = later_ends net (effect net w (Tick v)) es
later_ends net w (Deliver from to seq ∷ es) = later_ends net (effect net w (Deliver from to seq)) es

-- the worlds at the start and at the end of each quantum
abbrev pub ends : Net → World → List Event → List World
ends net w es = w ∷ later_ends net w es
