-- What each quantum of a play leaves: the clocks of all nodes, and how many nodes took it in fast mode.
use Rattle.std.specs.Prelude.{ℕ, zero, suc, ◌+◌, List, [], ◌∷◌, map, slice_index, slice_index_or}
use Rattle.gs_core.specs.declared.event.Event.{Event}
use Rattle.gs_core.specs.declared.event.Event.TheVariants.{Quantum, Tick, Deliver}
use Rattle.gs_plan.specs.declared.plan.Plan.{Plan}
use Rattle.gs_script.specs.Script.{Said}
use Rattle.gs_run.specs.Fast.{fast_in}
use Rattle.gs_run.specs.Net.{Net}
use Rattle.gs_run.specs.Nets.{net_of}
use Rattle.gs_run.specs.World.{World, clocks_in, effect, world_at_start_each}
use Rattle.gs_calendar.specs.Course.{course_of}
use Rattle.gs_calendar.specs.Events.{events_of, nodes_of}

-- the clocks of all nodes at a quantum's end, and how many nodes took it in fast mode
pub record Row : Type 0 where
  pub clocks : List ℕ
  pub fast : ℕ

-- the row of each quantum of these events
abbrev pub rows_after : Net → World → List Event → List Row
rows_after net w [] = []
rows_after net w (Quantum incs ∷ es) =
    record { clocks = clocks_in net (effect net w (Quantum incs)); fast = fast_in w }
    ∷ rows_after net (effect net w (Quantum incs)) es
rows_after net w (Tick v ∷ es) = rows_after net (effect net w (Tick v)) es
rows_after net w (Deliver from to seq ∷ es) = rows_after net (effect net w (Deliver from to seq)) es

-- with a row for the start, which no node has taken
abbrev pub rows_from : Net → World → List Event → List Row
rows_from net w es = record { clocks = clocks_in net w; fast = 0 } ∷ rows_after net w es

-- all clocks at 0
abbrev pub zeros_of : Net → List ℕ
zeros_of net = map (λ v. 0) (nodes_of net)

-- the start from these clocks, where all readings are 0
abbrev pub start_from : Net → List ℕ → World
start_from net l0s = world_at_start_each net (zeros_of net) l0s

-- The rows of a script from these clocks.
abbrev pub rows_of_script : Plan → Said → List ℕ → List Row
rows_of_script p s l0s = rows_from (net_of p) (start_from (net_of p) l0s) (events_of (net_of p) (course_of s))

-- the row at the end of quantum t
abbrev pub row_at : List Row → ℕ → Row
row_at rows t = slice_index_or rows t (record { clocks = []; fast = 0 })

-- the clock of node v at the end of quantum t
abbrev pub clock_at : List Row → ℕ → ℕ → ℕ
clock_at rows t v = slice_index (row_at rows t).clocks v

-- over the quanta 1 to t, the nodes that take each in fast mode
abbrev pub fast_upto : List Row → ℕ → ℕ
fast_upto rows zero = 0
fast_upto rows (suc t) = fast_upto rows t + (row_at rows (suc t)).fast
