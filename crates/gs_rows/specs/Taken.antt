-- What taking an event tells.
use Rattle.std.specs.Prelude.{ℕ, Option, Some, None}
use Rattle.gs_core.specs.declared.event.Event.{Event}
use Rattle.gs_core.specs.declared.event.Event.TheVariants.{Quantum, Tick, Deliver}
use Rattle.gs_run.specs.Fast.{fast_in}
use Rattle.gs_run.specs.World.{World}

-- of a quantum alone, how many nodes take it in fast mode
abbrev pub fast_taken : World → Event → Option ℕ
fast_taken w (Quantum incs) = Some (fast_in w)
fast_taken w (Tick v) = None
fast_taken w (Deliver from to seq) = None
