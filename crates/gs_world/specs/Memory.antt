-- Which events may take memory.
use Rattle.std.specs.Prelude.{⊤}
use Rattle.gs_core.specs.declared.event.Event.{Event}
use Rattle.gs_core.specs.declared.event.Event.TheVariants.{Quantum, Tick, Deliver}

-- the event is a tick
abbrev pub IsTick : Event → Type 0
IsTick (Quantum incs) = ⊥
IsTick (Tick v) = ⊤
IsTick (Deliver from to seq) = ⊥
