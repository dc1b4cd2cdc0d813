-- What holds of the edges of a plan, between two neighbours.
use Rattle.std.proofs.Common.{◌≤◌, ℕ, subst}
use Rattle.gs_topo.specs.Graph.{Graph, Adjacent}
use Rattle.gs_planfile.specs.declared.text.PlanText.{PlanText}
use Rattle.gs_plan.specs.Bounds.{greatest_delay_in, greatest_kappa_in}
use Rattle.gs_plan.specs.Edges.{edge_given, own_given}
use Rattle.gs_plan.specs.Numbers.{kappa_between, kappa_in}
use Rattle.gs_plan.proofs.Keeping.{each_below}
use Rattle.gs_plan.proofs.Linking.{has_number, text_at}

-- the kappa of an edge is at most the greatest
pub kappa_below : (t : PlanText) (g : Graph) (v w : ℕ) → Adjacent g v w → kappa_between t v w ≤ greatest_kappa_in t g
kappa_below t g v w next =
    let found = has_number g v w next in
    let at = text_at t g v w found.0 (own_given t) found.1 in
    subst (λ e. kappa_in t e ≤ greatest_kappa_in t g) at.1 (each_below (kappa_in t) t g found.0 (own_given t) at.0)

-- and so is its greatest delay
pub delay_below : (t : PlanText) (g : Graph) (v w : ℕ) → Adjacent g v w → (edge_given t (v, w)).delay_max ≤ greatest_delay_in t g
delay_below t g v w next =
    let found = has_number g v w next in
    let at = text_at t g v w found.0 (own_given t) found.1 in
    subst (λ e. e.delay_max ≤ greatest_delay_in t g) at.1 (each_below (λ e. e.delay_max) t g found.0 (own_given t) at.0)
