-- The numbers of every plan, as the net that the laws of runs speak of, and what it tells a node.
use Rattle.std.proofs.Common.{◌≡◌, ℕ, ◌+◌, ◌*◌, ◌/◌, ◌<◌, ◌≤◌, arith, refl, ap, subst, ◌∙◌, map, length, List, [], ◌∷◌, get_or}
use Rattle.gs_units.specs.Rates.{HasNumbers, r_of, q_of}
use Rattle.gs_units.specs.declared.params.Link.{Link}
use Rattle.gs_units.specs.declared.params.NodeParams.{NodeParams}
use Rattle.gs_units.specs.declared.rate.Rate.{Rate}
use Rattle.gs_topo.specs.Graph.{Graph, Adjacent, neighbours_of}
use Rattle.gs_topo.specs.Walks.{IsTopology, IsWalk, diameter_of, length_of, one_each}
use Rattle.gs_topo.proofs.Distances.{both_ways, is_least}
use Rattle.gs_topo.proofs.Tables.{at_most_diameter}
use Rattle.gs_planfile.specs.declared.text.PlanText.{PlanText}
use Rattle.gs_plan.specs.declared.edge.EdgeNumbers.{EdgeNumbers}
use Rattle.gs_plan.specs.Accepted.{IsAccepted}
use Rattle.gs_plan.specs.Bounds.{global_in, lambda_in, level_in, greatest_spread_in}
use Rattle.gs_plan.specs.Edges.{edge_given, edges_given, own_given}
use Rattle.gs_plan.specs.Nodes.{link_in}
use Rattle.gs_plan.specs.Numbers.{delta_in, iota_in, kappa_in, numbers_in, q_in, r_in, spread_in}
use Rattle.gs_plan.specs.Plans.{graph_of, rate_of, text_of}
use Rattle.gs_plan.proofs.Keeping.{each_below}
use Rattle.gs_plan.proofs.Linking.{fine_between, has_number, same_text, text_at}
use Rattle.gs_plan.proofs.Telling.{plan_accepted, plan_is_graph}
use Rattle.gs_plan.proofs.Weights.{least_in_plan}
use Rattle.gs_run.specs.Accepted.{PlansHaveNumbers}
use Rattle.gs_run.specs.Net.{delta_of, iota_of, lambda_of, level_of, link_of, skew_of, spread_of}
use Rattle.gs_run.specs.Nets.{net_in, net_of}
use Rattle.gs_run.specs.Told.{BoundsAreThePlans, NodesAreTold}

-- ---- a net has the numbers of its plan

spread_is : (t : PlanText) (g : Graph) (rate : Rate) (v w : ℕ) → HasNumbers t.lo t.hi t.mu rate
    → spread_of (net_in t g rate) v w ≡ spread_in t (edge_given t (v, w))
spread_is t g rate v w numbers = rw numbers.lo refl

delta_is : (t : PlanText) (g : Graph) (rate : Rate) (v w : ℕ) → HasNumbers t.lo t.hi t.mu rate
    → delta_of (net_in t g rate) v w ≡ delta_in t (edge_given t (v, w))
delta_is t g rate v w numbers = rw (numbers.hi, numbers.mu, numbers.lo) refl

iota_is : (t : PlanText) (g : Graph) (rate : Rate) → HasNumbers t.lo t.hi t.mu rate
    → iota_of (net_in t g rate) ≡ iota_in t
iota_is t g rate numbers = rw (numbers.hi, numbers.mu, numbers.lo) refl

-- G(0), G(s) and the lag of a maximum
pub skew_is : (t : PlanText) (g : Graph) (rate : Rate) → HasNumbers t.lo t.hi t.mu rate
    → skew_of (net_in t g rate) ≡ global_in t g
skew_is t g rate numbers = rw (numbers.hi, numbers.mu, numbers.lo) refl

pub level_is : (t : PlanText) (g : Graph) (rate : Rate) (s : ℕ) → HasNumbers t.lo t.hi t.mu rate
    → level_of (net_in t g rate) s ≡ level_in t g s
level_is t g rate s numbers = rw (skew_is t g rate numbers, numbers.hi, numbers.mu, numbers.lo) refl

lambda_is : (t : PlanText) (g : Graph) (rate : Rate) → HasNumbers t.lo t.hi t.mu rate
    → lambda_of (net_in t g rate) ≡ lambda_in t g
lambda_is t g rate numbers = rw (numbers.hi, numbers.lo) refl

strong_is : (t : PlanText) (rate : Rate) → HasNumbers t.lo t.hi t.mu rate → 2 * r_in t ≤ q_in t
    → 2 * r_of rate ≤ q_of rate
strong_is t rate numbers h = rw (numbers.hi, numbers.lo, numbers.mu) h

-- ---- what holds of each edge holds of its two ends

in_age_between : (t : PlanText) (g : Graph) (v w : ℕ) → IsAccepted t g → Adjacent g v w
    → (edge_given t (v, w)).delay_max ≤ t.age
in_age_between t g v w is next =
    let found = has_number g v w next in
    let at = text_at t g v w found.0 (own_given t) found.1 in
    let here : get_or (edges_given t g) found.0 (own_given t) ≡ edge_given t (v, w) = at.1 in
    subst (λ e. (numbers_in t e).delay_max ≤ t.age) here (is.in_age found.0 (own_given t) at.0)

spread_between : (t : PlanText) (g : Graph) (v w : ℕ) → Adjacent g v w
    → spread_in t (edge_given t (v, w)) ≤ greatest_spread_in t g
spread_between t g v w next =
    let found = has_number g v w next in
    let at = text_at t g v w found.0 (own_given t) found.1 in
    let here : get_or (edges_given t g) found.0 (own_given t) ≡ edge_given t (v, w) = at.1 in
    subst (λ e. spread_in t e ≤ greatest_spread_in t g) here (each_below (spread_in t) t g found.0 (own_given t) at.0)

-- ---- a walk of at most as many steps as the diameter

count_steps : (v : ℕ) (xs : List ℕ) → length_of one_each v xs ≡ length xs
count_steps v [] = refl
count_steps v (x ∷ xs) = let rest = count_steps x xs in omega (arith, rest)

short_walk : (g : Graph) → IsTopology g → (v w : ℕ) → v < g.nodes → w < g.nodes
    → (xs : List ℕ) × IsWalk (Adjacent g) g.nodes v xs w × (length xs ≤ diameter_of g)
short_walk g is v w hv hw =
    let found = (is_least g is.connected v w hv hw).some in
    let steps = count_steps v found.0 in
    let most = at_most_diameter g v w hv hw in
    (found.0, found.1, omega (arith, steps, found.2, most))

-- ---- every plan

-- the facts of an accepted plan that the laws of runs rest on
pub plan_has_numbers : PlansHaveNumbers
plan_has_numbers p =
    let t : PlanText = text_of p in
    let g : Graph = graph_of p in
    let numbers : HasNumbers t.lo t.hi t.mu (rate_of p) = p.rates in
    let is : IsAccepted t g = plan_accepted p.text p.topo p.accepted p.graph in
    let graph : IsTopology g = plan_is_graph p.text p.topo p.accepted p.graph in
    record {
      some = graph.some;
      tick = is.tick;
      every = is.every;
      both_ways = both_ways g;
      same_delay_min = λ v w. ap (λ (n : EdgeNumbers). n.delay_min) (ap (numbers_in t) (same_text t v w));
      same_delay_max = λ v w. ap (λ (n : EdgeNumbers). n.delay_max) (ap (numbers_in t) (same_text t v w));
      same_kappa = λ v w. ap (kappa_in t) (same_text t v w);
      delays = λ v w next. (fine_between t g v w is next).delays;
      in_age = λ v w next. in_age_between t g v w is next;
      near = λ v w next. (fine_between t g v w is next).near;
      margin =
          λ v w
          next.
          (let margin = (fine_between t g v w is next).margin in rw (delta_is t g (rate_of p) v w numbers) (omega (arith, margin)));
      strong = strong_is t (rate_of p) numbers is.strong;
      widest = λ v w next. rw (spread_is t g (rate_of p) v w numbers) (spread_between t g v w next);
      weights = λ v w hv hw. (least_in_plan p v w hv hw).0;
      diameter = short_walk g graph;
    }

-- the bounds of the net are the plan's
pub bounds_are_the_plans : BoundsAreThePlans
bounds_are_the_plans p =
    let t : PlanText = text_of p in
    let g : Graph = graph_of p in
    record {
      global = skew_is t g (rate_of p) p.rates;
      levels = λ s. level_is t g (rate_of p) s p.rates;
      lag = lambda_is t g (rate_of p) p.rates;
      budget = λ v w. delta_is t g (rate_of p) v w p.rates;
      kappa = λ v w. refl;
    }

-- ---- what a plan tells a node

same_links : (t : PlanText) (g : Graph) (rate : Rate) (v : ℕ) (xs : List ℕ) → HasNumbers t.lo t.hi t.mu rate
    → map (link_of (net_in t g rate) v) xs ≡ map (link_in t v) xs
same_links t g rate v [] numbers = refl
same_links t g rate v (x ∷ xs) numbers =
    let rest = same_links t g rate v xs numbers in
    let here : link_of (net_in t g rate) v x ≡ link_in t v x = rw (delta_is t g rate v x numbers, numbers.lo) refl in
    rw (here, rest) refl

-- the plan tells a node what the net says
pub told_is : NodesAreTold
told_is p v =
    let told : List Link → ℕ → NodeParams =
    λ links iota. record
    { cluster = p.text.cluster; node = v; links = links; rate = p.rate; iota = iota; every = p.text.every } in
    ap (λ links. told links (iota_of (net_of p))) (same_links p.text p.topo p.rate v (neighbours_of p.topo v) p.rates)
    ∙ ap (told (map (link_in p.text v) (neighbours_of p.topo v))) (iota_is p.text p.topo p.rate p.rates)
