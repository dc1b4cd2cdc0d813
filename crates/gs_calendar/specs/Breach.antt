-- The first breach of a list of events.
use Rattle.std.specs.Prelude.{ℕ, ◌+◌, List, [], ◌∷◌, Option, Some, None}
use Rattle.std.specs.Option.{option_or}
use Rattle.gs_core.specs.declared.event.Event.{Event}
use Rattle.gs_core.specs.declared.event.Event.TheVariants.{Quantum, Tick, Deliver}
use Rattle.gs_run.specs.Net.{Net}
use Rattle.gs_run.specs.World.{World, effect}
use Rattle.gs_run.specs.Why.{why}
use Rattle.gs_run.specs.declared.refused.Refused.{Refused}
use Rattle.gs_run.specs.declared.refused.Refused.TheVariants.{Stale}

-- a quantum, counted from 1, that is not allowed, since what one node last heard of another is too old
pub record Breach : Type 0 where
  pub quantum : ℕ
  pub from : ℕ
  pub to : ℕ

-- what this refusal of a quantum says
abbrev pub breach_of : ℕ → Option Refused → Option Breach
breach_of quantum (Some (Stale from to)) = Some (record { quantum = quantum; from = from; to = to })
breach_of quantum _ = None

-- the breach of one event in this world
abbrev pub breach_in : Net → World → Event → Option Breach
breach_in net w (Quantum incs) = breach_of (w.quanta + 1) (why net w (Quantum incs))
breach_in net w (Tick v) = None
breach_in net w (Deliver from to seq) = None

-- The first breach of these events, each in the world after those before it.
abbrev pub first_breach : Net → World → List Event → Option Breach
first_breach net w [] = None
first_breach net w (e ∷ es) = option_or (breach_in net w e) (first_breach net (effect net w e) es)
