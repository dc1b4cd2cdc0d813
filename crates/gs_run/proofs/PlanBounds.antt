-- The laws of runs in the numbers of a plan.
use Rattle.std.proofs.Common.{◌≡◌, ℕ, zero, suc, ◌*◌, ◌<◌, arith, inl, inr, refl, subst, sym, List, [], ◌∷◌, All, length, get_or, take}
use Rattle.std.proofs.Math.Nat.{mul-le-mul_left}
use Rattle.gs_topo.specs.Graph.{Adjacent, Graph, joins}
use Rattle.gs_topo.specs.Walks.{IsTopology}
use Rattle.gs_topo.proofs.Ascending.{joins-cases}
use Rattle.gs_topo.proofs.Members.{member-from_list_any}
use Rattle.gs_planfile.specs.declared.text.PlanText.{PlanText}
use Rattle.gs_plan.specs.Plans.{graph_of, text_of}
use Rattle.gs_plan.specs.declared.plan.Plan.{Plan}
use Rattle.gs_plan.proofs.Telling.{plan_is_graph}
use Rattle.gs_core.specs.declared.event.Event.{Event}
use Rattle.gs_core.specs.declared.event.Event.TheVariants.{Quantum, Tick, Deliver}
use Rattle.gs_run.specs.Accepted.{AreNumbers}
use Rattle.gs_run.specs.Bounds.{AreMaxima, Bounded}
use Rattle.gs_run.specs.Headline.{IsWithinPlan, PlansKeepBounds}
use Rattle.gs_run.specs.Net.{Net}
use Rattle.gs_run.specs.Nets.{net_of}
use Rattle.gs_run.specs.Run.{Allowed, ends, later_ends, run}
use Rattle.gs_run.specs.Told.{HasPlanBounds}
use Rattle.gs_run.specs.World.{World, effect, world_at_start}
use Rattle.gs_run.proofs.Bridges.{kappa_below}
use Rattle.gs_run.proofs.Budgets.{budget_kept}
use Rattle.gs_run.proofs.PlanNumbers.{bounds_are_the_plans, plan_has_numbers}
use Rattle.gs_run.proofs.Theorems.{always_bounded}

-- the ends of an edge are nodes
adjacent_nodes : (g : Graph) → IsTopology g → (v w : ℕ) → Adjacent g v w → (v < g.nodes) × (w < g.nodes)
adjacent_nodes g is v w next =
    let found = member-from_list_any (λ e. joins e v w) g.edges next in
    let e : ℕ × ℕ = found.0 in
    let place = found.1 in
    let up = is.upright place.0 e place.1 in
    let below = is.below place.0 e place.1 in
    let ends : (e.0 < g.nodes) × (e.1 < g.nodes) =
    subst (λ (x : ℕ × ℕ). (x.0 < g.nodes) × (x.1 < g.nodes)) place.2 (omega (arith, up, below), below) in
    elim (joins-cases e v w found.2) [
      | inl same ↦ (rw (← same.0) ends.0, rw (← same.1) ends.1)
      | inr turned ↦ (rw (← turned.1) ends.1, rw (← turned.0) ends.0)
    ]

-- a bounded world is within its plan
pub bounded_is_within : (p : Plan) (w : World) → Bounded (net_of p) w → AreMaxima (net_of p) w → IsWithinPlan p w
bounded_is_within p w bounded maxima =
    let t : PlanText = text_of p in
    let g : Graph = graph_of p in
    let same : HasPlanBounds p = bounds_are_the_plans p in
    let graph : IsTopology g = plan_is_graph t g p.accepted p.graph in
    record {
      global = (let most = bounded.global in let is = same.global in omega (arith, most, is));
      potentials = λ s. (let most = bounded.levels s in let is = same.levels s in omega (arith, most, is));
      edges = λ s v x next.
          let nodes = adjacent_nodes g graph v x next in
          let most = bounded.edges s v x nodes.0 nodes.1 next in
          let is = same.levels s in
          omega (arith, most, is);
      any_edge = λ s v x next.
          let nodes = adjacent_nodes g graph v x next in
          let most = bounded.edges s v x nodes.0 nodes.1 next in
          let is = same.levels s in
          let kappa = mul-le-mul_left (2 * s) (kappa_below t g v x next) in
          omega (arith, most, is, kappa);
      never_ahead = maxima.never_ahead;
      lags = λ v x hv hx. (let most = maxima.lags v x hv hx in let is = same.lag in omega (arith, most, is));
    }

-- every allowed run keeps the bounds of its plan
pub plans_keep_bounds : PlansKeepBounds
plans_keep_bounds p hw l0 events allowed =
    let numbers : AreNumbers (net_of p) = plan_has_numbers p in
    let bounded = always_bounded (net_of p) hw l0 events numbers allowed in
    record {
      moments = λ i. bounded_is_within p _ (bounded i).0 (bounded i).1;
      budget = budget_kept (net_of p) hw l0 events numbers allowed;
    }

-- ---- the worlds that a report is made of

-- each world at the end of a quantum is one after some events
later_moment : (net : Net) (w : World) (es : List Event) (k : ℕ) (d : World) → k < length (later_ends net w es)
    → (i : ℕ) × (get_or (later_ends net w es) k d ≡ run net w (take i es))
later_moment net w [] k d h = absurd (omega (arith, h))
later_moment net w (Quantum incs ∷ []) zero d h = (1, refl)
later_moment net w (Quantum incs ∷ e ∷ es) zero d h = (1, refl)
later_moment net w (Quantum incs ∷ es) (suc k) d h =
    let there = later_moment net (effect net w (Quantum incs)) es k d (omega (arith, h)) in (suc there.0, there.1)
later_moment net w (Tick v ∷ es) k d h =
    let there = later_moment net (effect net w (Tick v)) es k d h in (suc there.0, there.1)
later_moment net w (Deliver from to seq ∷ es) k d h =
    let there = later_moment net (effect net w (Deliver from to seq)) es k d h in (suc there.0, there.1)

-- and so is the start
end_moment : (net : Net) (w : World) (es : List Event) (k : ℕ) (d : World) → k < length (ends net w es)
    → (i : ℕ) × (get_or (ends net w es) k d ≡ run net w (take i es))
end_moment net w [] zero d h = (0, refl)
end_moment net w (e ∷ es) zero d h = (0, refl)
end_moment net w es (suc k) d h = later_moment net w es k d (omega (arith, h))

-- so all of them are within the plan
pub ends_are_within : (p : Plan) (hw : List ℕ) (l0 : ℕ) (events : List Event)
    → Allowed (net_of p) (world_at_start (net_of p) hw l0) events
    → All (IsWithinPlan p) (ends (net_of p) (world_at_start (net_of p) hw l0) events)
ends_are_within p hw l0 events allowed k d inside =
    let at = end_moment (net_of p) (world_at_start (net_of p) hw l0) events k d inside in
    subst (λ (w : World). IsWithinPlan p w) (sym at.1) ((plans_keep_bounds p hw l0 events allowed).moments at.0)
