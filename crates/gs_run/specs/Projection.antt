-- What one node sees of a run.
use Rattle.std.specs.Prelude.{ℕ, ◌==◌, List, [], ◌∷◌, ◌++◌, Option, Some, None, if◌then◌else◌}
use Rattle.gs_core.specs.declared.event.Event.{Event}
use Rattle.gs_core.specs.declared.event.Event.TheVariants.{Quantum, Tick, Deliver}
use Rattle.gs_core.specs.declared.event.NodeEvent.{NodeEvent}
use Rattle.gs_core.specs.declared.event.NodeEvent.TheVariants as own
use Rattle.gs_run.specs.Net.{Net}
use Rattle.gs_run.specs.World.{World, Sent, member, sent_by, effect}

-- a beacon that was sent, as the event of the node that it comes to
abbrev pub delivery_of : ℕ → Option Sent → List NodeEvent
delivery_of now None = []
delivery_of now (Some s) = own.Deliver now s.beacon ∷ []

-- The ticks of node v and the beacons that come to it, each with v's reading then.
abbrev pub projection : Net → ℕ → World → List Event → List NodeEvent
projection net v w [] = []
projection net v w (Quantum incs ∷ es) = projection net v (effect net w (Quantum incs)) es
projection net v w (Tick u ∷ es) =
    (if u == v then own.Tick (member w v).reading ∷ [] else []) ++ projection net v (effect net w (Tick u)) es
projection net v w (Deliver from to seq ∷ es) =
    (if to == v then delivery_of (member w v).reading (sent_by w from seq) else [])
    ++ projection net v (effect net w (Deliver from to seq)) es
