-- What is seen of a run: the rows of its clocks, and how often nodes ran fast.
use Rattle.std.specs.Prelude.{ℕ, ◌+◌, List, [], ◌∷◌, map}
use Rattle.gs_core.specs.declared.event.Event.{Event}
use Rattle.gs_core.specs.declared.event.Event.TheVariants.{Quantum, Tick, Deliver}
use Rattle.gs_run.specs.Fast.{fast_in}
use Rattle.gs_run.specs.Net.{Net}
use Rattle.gs_run.specs.Run.{ends}
use Rattle.gs_run.specs.World.{World, clocks_in, effect}

-- the clocks of all nodes at the start and at the end of each quantum
abbrev pub rows_of : Net → World → List Event → List (List ℕ)
rows_of net w es = map (clocks_in net) (ends net w es)

-- over the quanta of these events, the nodes that take each in fast mode
abbrev pub fast_of : Net → World → List Event → ℕ
fast_of net w [] = 0
fast_of net w (Quantum incs ∷ es) = fast_in w + fast_of net (effect net w (Quantum incs)) es
fast_of net w (Tick v ∷ es) = fast_of net (effect net w (Tick v)) es
fast_of net w (Deliver from to seq ∷ es) = fast_of net (effect net w (Deliver from to seq)) es
