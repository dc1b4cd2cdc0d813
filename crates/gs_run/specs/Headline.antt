-- The headline: what every run of a plan keeps that starts with equal clocks. Its bounds are the numbers that the calls of
-- `Plan` answer and the planner prints.
use Rattle.std.specs.Prelude.{ℕ, ◌+◌, ◌<◌, ◌≤◌, List, take}
use Rattle.gs_topo.specs.Graph.{Adjacent}
use Rattle.gs_plan.specs.Plans.{bound_of, edge_bound_of, global_of, graph_of, kappa_of, lag_of, local_of, weight_of}
use Rattle.gs_plan.specs.declared.plan.Plan.{Plan}
use Rattle.gs_core.specs.declared.event.Event.{Event}
use Rattle.gs_skew.specs.Skews.{global_skew, potential, skew_between}
use Rattle.gs_run.specs.Budget.{Budget, watched_at_start}
use Rattle.gs_run.specs.Nets.{net_of}
use Rattle.gs_run.specs.Run.{Allowed, run}
use Rattle.gs_run.specs.World.{World, clock_in, clocks_in, maximum_in, world_at_start}

-- The clocks and maxima of one moment. All clocks are within G(0) of each other; for every level s the potential is at
-- most G(s), and the ends of each edge e are within 2*s*kappa(e) + G(s), and so within local(s). No maximum is above all
-- clocks, and none is behind a clock by more than lambda.
pub record IsWithinPlan (p : Plan) (w : World) : Type 0 where
  pub global : global_skew (clocks_in (net_of p) w) ≤ global_of p
  pub potentials : (s : ℕ) → potential (weight_of p) (clocks_in (net_of p) w) s ≤ bound_of p s
  pub edges : (s v x : ℕ) → Adjacent (graph_of p) v x → skew_between (clocks_in (net_of p) w) v x
      ≤ edge_bound_of p (kappa_of p v x) s
  pub any_edge : (s v x : ℕ) → Adjacent (graph_of p) v x
      → skew_between (clocks_in (net_of p) w) v x ≤ local_of p s
  pub never_ahead : (v : ℕ) → v < (graph_of p).nodes
      → (x : ℕ) × (x < (graph_of p).nodes) × (maximum_in (net_of p) w v ≤ clock_in (net_of p) w x)
  pub lags : (v x : ℕ) → v < (graph_of p).nodes → x < (graph_of p).nodes
      → clock_in (net_of p) w x ≤ maximum_in (net_of p) w v + lag_of p

-- At every moment of these events the plan's bounds hold, and at the end of each quantum the offsets that nodes decide by
-- are within the delta of their edge.
pub record KeepsBounds (p : Plan) (start : World) (events : List Event) : Type 0 where
  pub moments : (i : ℕ) → IsWithinPlan p (run (net_of p) start (take i events))
  pub budget : Budget (net_of p) (watched_at_start (net_of p) start) events

-- For every plan, any readings and one clock at the start, and every list of events that the plan allows.
abbrev pub PlansKeepBounds : Type 0
PlansKeepBounds = (p : Plan) (hw : List ℕ) (l0 : ℕ) (events : List Event)
    → Allowed (net_of p) (world_at_start (net_of p) hw l0) events
    → KeepsBounds p (world_at_start (net_of p) hw l0) events
