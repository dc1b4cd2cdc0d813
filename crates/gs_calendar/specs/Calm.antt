-- The runs in which nothing is refused but quanta, and those for their staleness alone.
use Rattle.std.specs.Prelude.{◌≡◌, ℕ, List, [], ◌∷◌, None, Some, ◌⊎◌, ⊤}
use Rattle.gs_core.specs.declared.event.Event.{Event}
use Rattle.gs_core.specs.declared.event.Event.TheVariants.{Quantum, Tick, Deliver}
use Rattle.gs_run.specs.Net.{Net}
use Rattle.gs_run.specs.World.{World, effect}
use Rattle.gs_run.specs.Why.{why}
use Rattle.gs_run.specs.declared.refused.Refused.TheVariants.{Stale}

-- the event is allowed in this world, or it is a quantum whose refusal is a breach
abbrev pub IsCalm : Net → World → Event → Type 0
IsCalm net w (Quantum incs) =
    (why net w (Quantum incs) ≡ None)
    ⊎ ((from : ℕ) × (to : ℕ) × (why net w (Quantum incs) ≡ Some (Stale from to)))
IsCalm net w (Tick v) = why net w (Tick v) ≡ None
IsCalm net w (Deliver from to seq) = why net w (Deliver from to seq) ≡ None

-- Each event is calm in the world after those before it, which goes on after a breach as if the quantum were allowed.
abbrev pub Calm : Net → World → List Event → Type 0
Calm net w [] = ⊤
Calm net w (e ∷ es) = IsCalm net w e × Calm net (effect net w e) es
