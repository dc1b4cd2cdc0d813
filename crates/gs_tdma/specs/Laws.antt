-- The law of slot plans, over runs.
use Rattle.std.specs.Prelude.{◌≡◌, ◌≢◌, ℕ, ◌<◌, ◌≤◌, List, take, true}
use Rattle.gs_topo.specs.Walks.{distance_of}
use Rattle.gs_core.specs.declared.event.Event.{Event}
use Rattle.gs_plan.specs.Plans.{graph_of}
use Rattle.gs_plan.specs.declared.plan.Plan.{Plan}
use Rattle.gs_run.specs.Nets.{net_of}
use Rattle.gs_run.specs.Run.{Allowed, run}
use Rattle.gs_run.specs.World.{clock_in, world_at_start}
use Rattle.gs_script.specs.Script.{Said}
use Rattle.gs_rows.specs.Row.{clock_at, rows_of_script, zeros_of}
use Rattle.gs_tdma.specs.Slots.{AreSlots, Slots, sends}

-- no two different nodes within reach of each other may send by these clocks
abbrev pub NoneCollide : Plan → Slots → (ℕ → ℕ) → Type 0
NoneCollide p s clock = (v w : ℕ) → v < (graph_of p).nodes → w < (graph_of p).nodes → v ≢ w
    → distance_of (graph_of p) v w ≤ s.reach → sends s v (clock v) ≡ true → sends s w (clock w) ≡ true → ⊥

-- So it is at every moment of an allowed run from equal clocks.
abbrev pub SlotsNeverCollide : Type 0
SlotsNeverCollide = (p : Plan) (s : Slots) (hw : List ℕ) (l0 : ℕ) (es : List Event) (i : ℕ)
    → AreSlots p s → Allowed (net_of p) (world_at_start (net_of p) hw l0) es
    → NoneCollide p s (clock_in (net_of p) (run (net_of p) (world_at_start (net_of p) hw l0) (take i es)))

-- So it is at the end of each quantum of a script, from equal clocks.
abbrev pub NeverCollide : Plan → Said → Slots → Type 0
NeverCollide p said s =
    (t : ℕ) → t ≤ said.quanta → NoneCollide p s (clock_at (rows_of_script p said (zeros_of (net_of p))) t)
