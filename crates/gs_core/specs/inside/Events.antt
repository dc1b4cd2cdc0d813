-- Kinds of events of a network. These facts are for private functions and proofs.
use Rattle.gs_core.specs.declared.event.Event.{Event}
use Rattle.gs_core.specs.declared.event.Event.TheVariants.{Quantum, Tick, Deliver}

-- a tick or a delivery
abbrev pub IsNoQuantum : Event → Type 0
IsNoQuantum (Quantum incs) = ⊥
IsNoQuantum (Tick v) = Unit {0}
IsNoQuantum (Deliver from to seq) = Unit {0}
