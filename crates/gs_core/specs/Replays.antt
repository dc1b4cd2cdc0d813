-- The laws of a replay.
use Rattle.std.specs.Prelude.{◌≡◌, ℕ, ◌+◌, List, [], ◌∷◌, ◌++◌, length}
use Rattle.gs_units.specs.declared.params.NodeParams.{NodeParams}
use Rattle.gs_core.specs.Node.{Node}
use Rattle.gs_core.specs.Steps.{Reply, Whole, Stopped, fault_of, after, reply_of, unless_fault, replay}
use Rattle.gs_core.specs.declared.event.NodeEvent.{NodeEvent}
use Rattle.gs_core.specs.declared.reply.CoreFault.{CoreFault}

-- a whole replay goes on with one more event as the node that it left does
abbrev pub ReplayGoesOn : Type 0
ReplayGoesOn = (p : NodeParams) (i : ℕ) (n m : Node) (es : List NodeEvent) (replies : List Reply) (e : NodeEvent)
    → replay p i n es ≡ Whole m replies
    → replay p i n (es ++ e ∷ [])
    ≡ unless_fault (fault_of p m e) (i + length es) (Whole (after p m e) (replies ++ reply_of p m e ∷ []))

-- a replay that has stopped stays so, whatever comes later
abbrev pub StoppedStays : Type 0
StoppedStays = (p : NodeParams) (i : ℕ) (n : Node) (es later : List NodeEvent) (place : ℕ) (fault : CoreFault)
    → replay p i n es ≡ Stopped place fault → replay p i n (es ++ later) ≡ Stopped place fault
