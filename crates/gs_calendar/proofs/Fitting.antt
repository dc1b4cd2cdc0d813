-- A script that was read for a plan keeps the bounds of the plan's net.
use Rattle.std.proofs.Common.{◌≡◌, ℕ, ◌^◌, ◌≤◌, arith, ap, sym, ◌∙◌, subst, get_or}
use Rattle.gs_topo.specs.Graph.{Graph, adjacent, joins}
use Rattle.gs_topo.specs.Graph as graph
use Rattle.gs_planfile.specs.declared.text.PlanText.{PlanText}
use Rattle.gs_plan.specs.declared.plan.Plan.{Plan}
use Rattle.gs_plan.specs.Accepted.{IsAccepted, IsFine}
use Rattle.gs_plan.specs.Edges.{edge_given, edges_given, own_given}
use Rattle.gs_plan.specs.Plans.{text_of, graph_of}
use Rattle.gs_plan.specs.Shapes.{graph_of_text}
use Rattle.gs_plan.proofs.Linking.{has_number, text_at}
use Rattle.gs_plan.proofs.Telling.{plan_accepted}
use Rattle.gs_script.specs.Script.{Said, IsScript, least_delay}
use Rattle.gs_run.specs.Net.{Net, Adjacent}
use Rattle.gs_run.specs.Nets.{net_of}
use Rattle.gs_calendar.specs.Course.{Course, course_of}

-- a course keeps the bounds of a net, and a beacon takes at least one quantum
pub record IsCourse (net : Net) (c : Course) : Type 0 where
  pub inc_low : (v t : ℕ) → net.rate.lo ≤ c.inc v t
  pub inc_high : (v t : ℕ) → c.inc v t ≤ net.rate.hi
  pub gap_low : (v t : ℕ) → 1 ≤ c.gap v t
  pub gap_high : (v t : ℕ) → c.gap v t ≤ net.tick
  pub delay_some : (from to t : ℕ) → Adjacent net from to → 1 ≤ c.delay from to t
  pub delay_low : (from to t : ℕ) → Adjacent net from to → net.delay_min from to ≤ c.delay from to t
  pub delay_high : (from to t : ℕ) → Adjacent net from to → c.delay from to t ≤ net.delay_max from to
  pub short : c.quanta ≤ 2 ^ 20

-- the edges of the script's text are the plan's
same_graph : (p : Plan) (s : Said) → s.text ≡ text_of p → graph_of_text s.text ≡ graph_of p
same_graph p s e = ap (λ (t : PlanText). graph_of_text t) e ∙ sym p.graph

pub same_nodes : (p : Plan) (s : Said) → s.text ≡ text_of p → (graph_of_text s.text).nodes ≡ (net_of p).nodes
same_nodes p s e = ap (λ (g : Graph). g.nodes) (same_graph p s e)

pub adjacent_said : (p : Plan) (s : Said) (v w : ℕ) → s.text ≡ text_of p → Adjacent (net_of p) v w → graph.Adjacent (graph_of_text s.text) v w
adjacent_said p s v w e h = subst (λ (g : Graph). graph.Adjacent g v w) (sym (same_graph p s e)) h

some_delay : (least d : ℕ) → least_delay least ≤ d → (1 ≤ d) × (least ≤ d)
some_delay least d h = grind arith

pub fits : (p : Plan) (s : Said) → s.text ≡ text_of p → IsScript s → IsCourse (net_of p) (course_of s)
fits p s e is = record {
  inc_low = λ v t. let low = is.inc_low v t in let lo = p.rates.lo in let same = ap (λ (x : PlanText). x.lo) e in omega (arith, low, lo, same);
  inc_high = λ v t. let high = is.inc_high v t in let hi = p.rates.hi in let same = ap (λ (x : PlanText). x.hi) e in omega (arith, high, hi, same);
  gap_low = is.gap_low;
  gap_high = λ v t. let high = is.gap_high v t in let same = ap (λ (x : PlanText). x.tick) e in omega (arith, high, same);
  delay_some = λ v w t h. (some_delay (edge_given s.text (v, w)).delay_min _ (is.delay_low v w t (adjacent_said p s v w e h))).0;
  delay_low = λ v w t h.
      let low = (some_delay (edge_given s.text (v, w)).delay_min _ (is.delay_low v w t (adjacent_said p s v w e h))).1 in
      let same = ap (λ (x : PlanText). (edge_given x (v, w)).delay_min) e in
      omega (arith, low, same);
  delay_high = λ v w t h.
      let high = is.delay_high v w t (adjacent_said p s v w e h) in
      let same = ap (λ (x : PlanText). (edge_given x (v, w)).delay_max) e in
      omega (arith, high, same);
  short = let few = is.quanta in omega arith;
}

-- delays are far below 2^32
pub near : (p : Plan) (v w : ℕ) → Adjacent (net_of p) v w → (edge_given (text_of p) (v, w)).delay_max ≤ 65536
near p v w h =
    let t : PlanText = text_of p in
    let is : IsAccepted t (graph_of p) = plan_accepted t (graph_of p) p.accepted p.graph in
    let found = has_number (graph_of p) v w h in
    let at = text_at t (graph_of p) v w found.0 (own_given t) found.1 in
    let fine : IsFine t (get_or (edges_given t (graph_of p)) found.0 (own_given t)) = is.edges found.0 (own_given t) at.0 in
    let same : (get_or (edges_given t (graph_of p)) found.0 (own_given t)).delay_max ≡ (edge_given t (v, w)).delay_max = λ i. (at.1 i).delay_max in
    let low = fine.near in
    omega (arith, low, same)
