-- The laws of runs: what holds of every allowed list of events, for every net with the numbers of a plan.
use Rattle.std.specs.Prelude.{◌≡◌, ℕ, ◌<◌, ◌^◌, List, length, take, slice_index}
use Rattle.gs_core.specs.Node.{started}
use Rattle.gs_core.specs.declared.reply.Reply.{Reply}
use Rattle.gs_core.specs.Steps.{replay, Whole}
use Rattle.gs_core.specs.declared.event.Event.{Event}
use Rattle.gs_run.specs.Net.{Net, params_of}
use Rattle.gs_run.specs.World.{member, world_at_start, world_at_start_each}
use Rattle.gs_run.specs.Run.{run, Allowed}
use Rattle.gs_run.specs.Bounds.{Bounded, AreMaxima}
use Rattle.gs_run.specs.Budget.{Budget, watched_at_start}
use Rattle.gs_run.specs.Projection.{projection}
use Rattle.gs_run.specs.Accepted.{AreNumbers, IsSmall}

-- From equal clocks, all clocks stay within their bounds and all maxima within theirs, at every moment.
abbrev pub RunsAreBounded : Type 0
RunsAreBounded = (net : Net) (hw : List ℕ) (l0 : ℕ) (es : List Event) → AreNumbers net
    → Allowed net (world_at_start net hw l0) es → (i : ℕ)
    → Bounded net (run net (world_at_start net hw l0) (take i es))
    × AreMaxima net (run net (world_at_start net hw l0) (take i es))

-- The offsets that nodes decide by stay within the budget.
abbrev pub RunsKeepTheBudget : Type 0
RunsKeepTheBudget = (net : Net) (hw : List ℕ) (l0 : ℕ) (es : List Event) → AreNumbers net
    → Allowed net (world_at_start net hw l0) es → Budget net (watched_at_start net (world_at_start net hw l0)) es

-- The state of each node is what its own events make of it, and none of them has a fault, from any readings and clocks of
-- at most 2^61.
abbrev pub NodesAreReplayed : Type 0
NodesAreReplayed = (net : Net) (hw l0s : List ℕ) (v : ℕ) (es : List Event) → AreNumbers net
    → IsSmall net (slice_index hw) (slice_index l0s) → v < net.nodes → length es < 2 ^ 64
    → Allowed net (world_at_start_each net hw l0s) es
    → (replies : List Reply)
    × (replay (params_of net v) 0 (started (params_of net v) (slice_index hw v) (slice_index l0s v))
    (projection net v (world_at_start_each net hw l0s) es)
    ≡ Whole (member (run net (world_at_start_each net hw l0s) es) v).node replies)
