-- The laws of external order, over runs and over scripts.
use Rattle.std.specs.Prelude.{◌≡◌, ℕ, ◌<◌, ◌≤◌, List, None, take}
use Rattle.gs_core.specs.declared.event.Event.{Event}
use Rattle.gs_plan.specs.Plans.{text_of}
use Rattle.gs_plan.specs.declared.plan.Plan.{Plan}
use Rattle.gs_script.specs.Script.{Said, IsScript}
use Rattle.gs_run.specs.Nets.{net_of}
use Rattle.gs_run.specs.Run.{Allowed, run}
use Rattle.gs_run.specs.World.{clock_in, world_at_start}
use Rattle.gs_calendar.specs.Scripts.{breach_of_script}
use Rattle.gs_order.specs.Orders.{AreOrdered, order_of}
use Rattle.gs_order.specs.Waits.{CanFinish}

-- In every allowed run from equal clocks: where an event of this stamp can finish at node v after i events, whatever begins
-- then or later, after j events, has a greater stamp, which is the clock of its node u.
abbrev pub CommitWaitsOrderEvents : Type 0
CommitWaitsOrderEvents = (p : Plan) (hw : List ℕ) (l0 : ℕ) (es : List Event) (stamp i j v u : ℕ)
    → Allowed (net_of p) (world_at_start (net_of p) hw l0) es → i ≤ j → v < (net_of p).nodes → u < (net_of p).nodes
    → CanFinish p (run (net_of p) (world_at_start (net_of p) hw l0) (take i es)) v stamp
    → stamp < clock_in (net_of p) (run (net_of p) (world_at_start (net_of p) hw l0) (take j es)) u

-- The events of every script that was read for the plan and has no breach are ordered.
abbrev pub ScriptsAreOrdered : Type 0
ScriptsAreOrdered = (p : Plan) (s : Said) (every : ℕ) → 1 ≤ every → s.text ≡ text_of p → IsScript s
    → breach_of_script p s ≡ None → AreOrdered (order_of p s every)
