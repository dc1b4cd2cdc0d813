-- What a plan tells a node is valid.
use Rattle.std.proofs.Common.{◌≡◌, ◌≢◌, ℕ, ◌+◌, ◌-◌, ◌*◌, ◌/◌, ◌<◌, ◌≤◌, ◌^◌, ◌∙◌, arith, refl, ap, sym, subst, inl, inr, map, take, drop, length, List, [], ◌∷◌, ◌++◌, Bool, true, false, cond, IsTrue, Option, Some, None, is_none, option_map, get_or, slice_index}
use Rattle.std.specs.List.{filter, range_with_len}
use Rattle.std.specs.List.Sorted.{IsStrictlyIncreasing}
use Rattle.std.proofs.Math.Nat.{div-mul-le_self, mul-add, mul-le-mul_left}
use Rattle.std.proofs.lemmas.Bool.{false_from_ne_true}
use Rattle.std.proofs.lemmas.List.{length-append, length-drop, length-map, length-take-le, take-append-drop}
use Rattle.std.proofs.lemmas.List.Elements.{All-contains, All-filter, All-map, filter-append}
use Rattle.std.proofs.lemmas.List.Filters.{length-filter_more}
use Rattle.std.proofs.lemmas.List.Sums.{count_by-le-length, length-filter}
use Rattle.std.proofs.lemmas.List.Kept.{IsStrictlyIncreasing-filter}
use Rattle.std.proofs.lemmas.List.FromFn.{get_or-range_with_len, length-range_with_len}
use Rattle.gs_units.proofs.FirstFault.{none_of}
use Rattle.gs_units.specs.Rates.{boosted, HasNumbers}
use Rattle.gs_units.specs.Faults.{rate_fault}
use Rattle.gs_units.specs.Params.{AreValid, IsSound}
use Rattle.gs_units.specs.declared.params.Link.{Link}
use Rattle.gs_units.specs.declared.rate.Rate.{Rate}
use Rattle.gs_topo.specs.Faults.{fault_of}
use Rattle.gs_topo.specs.Graph.{Graph, Adjacent, adjacent, graph_of, joined, joins, neighbours_of, pairs_below}
use Rattle.gs_topo.specs.Walks.{IsTopology}
use Rattle.gs_topo.proofs.Ascending.{joins-cases, pairs_within}
use Rattle.gs_topo.proofs.Members.{member-from_list_any}
use Rattle.gs_topo.proofs.Nearer.{neighbour_inside}
use Rattle.gs_planfile.specs.declared.text.PlanText.{PlanText}
use Rattle.gs_plan.specs.declared.edge.EdgeGiven.{EdgeGiven}
use Rattle.gs_plan.specs.declared.fault.PlanFault.TheVariants as fault
use Rattle.gs_plan.specs.Accepted.{IsAccepted, IsFine}
use Rattle.gs_plan.specs.Edges.{edge_given, edges_given, own_given}
use Rattle.gs_plan.specs.Faults.{fault_over, plan_fault}
use Rattle.gs_plan.specs.inside.Kept.{AreWords}
use Rattle.gs_plan.specs.Nodes.{link_in, link_over}
use Rattle.gs_plan.specs.Numbers.{drift_in, iota_in}
use Rattle.gs_plan.specs.Shapes.{graph_of_text, shape_edges, shape_nodes}
use Rattle.gs_plan.proofs.Accepting.{accepted_of}
use Rattle.gs_plan.proofs.Connecting.{no_fault_is_graph, no_map}
use Rattle.gs_plan.proofs.Keeping.{all_words}
use Rattle.gs_plan.proofs.Linking.{has_number, text_at}

pub is_none_of : {X : Type 0} (o : Option X) → is_none o ≡ true → o ≡ None
is_none_of None h = refl
is_none_of (Some x) h = cc

-- a plan without a fault is accepted over its graph
pub text_accepted : (t : PlanText) → IsTrue (is_none (plan_fault t)) → IsAccepted t (graph_of_text t)
unfolding plan_fault
text_accepted t h =
    let rate = none_of (option_map fault.Rate (rate_fault t.lo t.hi t.mu)) _ (is_none_of _ h) in
    let topo = none_of (option_map fault.Topo (fault_of (shape_nodes t.shape) (shape_edges t.shape))) _ rate.1 in
    let over = none_of (fault_over t (graph_of_text t)) _ topo.1 in
    accepted_of t (graph_of_text t) over.0

pub plan_accepted : (t : PlanText) (g : Graph) → IsTrue (is_none (plan_fault t)) → g ≡ graph_of_text t → IsAccepted t g
plan_accepted t g h is = subst (λ x. IsAccepted t x) (sym is) (text_accepted t h)

-- and its graph is that of a topology
pub plan_is_graph : (t : PlanText) (g : Graph) → IsTrue (is_none (plan_fault t)) → g ≡ graph_of_text t → IsTopology g
unfolding plan_fault
plan_is_graph t g h is =
    let rate = none_of (option_map fault.Rate (rate_fault t.lo t.hi t.mu)) _ (is_none_of _ h) in
    let topo = none_of (option_map fault.Topo (fault_of (shape_nodes t.shape) (shape_edges t.shape))) _ rate.1 in
    subst (λ x. IsTopology x) (sym is) (no_fault_is_graph (shape_nodes t.shape) (shape_edges t.shape) (no_map fault.Topo (fault_of (shape_nodes t.shape) (shape_edges t.shape)) topo.0))

-- the boost of at most a tenth
boosted_tenth : (mu h : ℕ) → mu ≤ 100000 → 10 * boosted mu h ≤ h
boosted_tenth mu h few =
    let part : h * mu / 1000000 * 1000000 ≤ h * mu = div-mul-le_self (h * mu) 1000000 in
    let most : h * mu ≤ h * 100000 = mul-le-mul_left h few in
    omega (arith, part, most)

-- the numbers of an edge that is fine make a sound link
sound_over : (t : PlanText) (e : EdgeGiven) (x : ℕ) → t.lo ≤ 2 ^ 30 → IsFine t e → AreWords t e → IsSound (link_over t e x)
sound_over t e x low fine words =
    let whole : e.delay_min + (e.delay_max - e.delay_min) ≡ e.delay_max = (let h = fine.delays in omega (arith, h)) in
    let parts : t.lo * e.delay_max ≡ t.lo * e.delay_min + t.lo * (e.delay_max - e.delay_min) = rw (← mul-add t.lo e.delay_min (e.delay_max - e.delay_min), whole) refl in
    let most : t.lo * e.delay_max ≤ t.lo * 65536 = mul-le-mul_left t.lo fine.near in
    let margin = fine.margin in
    record {
      triggers = record { margin = omega (arith, margin); kappa = words.high };
      comp = omega (arith, parts, most, low);
      jump = omega (arith, parts, most, low);
    }

-- the link to a neighbour is sound
sound_link : (t : PlanText) (g : Graph) (v x : ℕ) → t.lo ≤ 2 ^ 30 → IsAccepted t g → Adjacent g v x → IsSound (link_in t v x)
sound_link t g v x low is next =
    let found = has_number g v x next in
    let at = text_at t g v x found.0 (own_given t) found.1 in
    let inside : found.0 < length (edges_given t g) = at.0 in
    let here : get_or (edges_given t g) found.0 (own_given t) ≡ edge_given t (v, x) = at.1 in
    let sound = sound_over t (get_or (edges_given t g) found.0 (own_given t)) x low (is.edges found.0 (own_given t) inside) (all_words t g is found.0 (own_given t) inside) in
    subst (λ e. IsSound (link_over t e x)) here sound

-- no node of a plan's graph is its own neighbour
no_self : (n : ℕ) (given : List (ℕ × ℕ)) (v : ℕ) → Adjacent (graph_of n given) v v → ⊥
no_self n given v next =
    let within = All-filter (λ e. joined given e.0 e.1) (λ e. (e.0 < e.1) × (e.1 < n)) (pairs_below n) (pairs_within n) in
    let member = member-from_list_any (λ e. joins e v v) (graph_of n given).edges next in
    let upright = All-contains (λ e. (e.0 < e.1) × (e.1 < n)) (graph_of n given).edges member.0 within member.1 in
    elim (joins-cases member.0 v v member.2) [ inl there ↦ omega (arith, there, upright) | inr back ↦ omega (arith, back, upright) ]

-- numbers from one on ascend
range_ascends : (a n : ℕ) → IsStrictlyIncreasing (range_with_len a n)
range_ascends a n = λ k h.
    let count : length (range_with_len a n) ≡ n = length-range_with_len a n in
    let here : slice_index (range_with_len a n) k ≡ a + k = get_or-range_with_len a n k 0 (omega (arith, count, h)) in
    let next : slice_index (range_with_len a n) (k + 1) ≡ a + (k + 1) = get_or-range_with_len a n (k + 1) 0 (omega (arith, count, h)) in
    omega (arith, here, next)

-- so do the neighbours of a node
pub neighbours_ascend : (g : Graph) (v : ℕ) → IsStrictlyIncreasing (neighbours_of g v)
neighbours_ascend g v = IsStrictlyIncreasing-filter (adjacent g v) (range_with_len 0 g.nodes) (range_ascends 0 g.nodes)

-- a filter that leaves an element out gives fewer
filter_fewer : (p : ℕ → Bool) (xs : List ℕ) (i : ℕ) → i < length xs → p (slice_index xs i) ≡ false → length (filter p xs) < length xs
filter_fewer p xs i inside out =
    let one : Bool → ℕ = λ b. cond b 1 0 in
    let none : one (p (slice_index xs i)) ≡ 0 = ap one out in
    let front = length-filter_more p xs i 0 inside in
    let whole : filter p (take (i + 1) xs) ++ filter p (drop (i + 1) xs) ≡ filter p xs = sym (filter-append p (take (i + 1) xs) (drop (i + 1) xs)) ∙ ap (filter p) (take-append-drop (i + 1) xs) in
    let sum : length (filter p (take (i + 1) xs)) + length (filter p (drop (i + 1) xs)) ≡ length (filter p xs) = sym (length-append _ _) ∙ ap length whole in
    let few : (ys : List ℕ) → length (filter p ys) ≤ length ys = λ ys. rw (length-filter p ys) (count_by-le-length p ys) in
    omega (arith, none, front, sum, few (take i xs), few (drop (i + 1) xs), length-take-le i xs (omega (arith, inside)), length-drop (i + 1) xs)

-- so a node has fewer neighbours than there are nodes
few_neighbours : (g : Graph) (v : ℕ) → v < g.nodes → (Adjacent g v v → ⊥) → length (neighbours_of g v) < g.nodes
few_neighbours g v inside alone =
    let count : length (range_with_len 0 g.nodes) ≡ g.nodes = length-range_with_len 0 g.nodes in
    let at = get_or-range_with_len 0 g.nodes v 0 inside in
    let here : slice_index (range_with_len 0 g.nodes) v ≡ v = omega (arith, at) in
    let out : adjacent g v (slice_index (range_with_len 0 g.nodes) v) ≡ false = rw here (false_from_ne_true (adjacent g v v) alone) in
    let fewer = filter_fewer (adjacent g v) (range_with_len 0 g.nodes) v (omega (arith, count, inside)) out in
    omega (arith, fewer, count)

-- the nodes of the links are the neighbours
linked : (t : PlanText) (v : ℕ) (xs : List ℕ) → map (λ link. link.node) (map (link_in t v) xs) ≡ xs
linked t v [] = refl
linked t v (x ∷ xs) = ap (λ ys. x ∷ ys) (linked t v xs)

-- what a node is told is valid
pub params_are_valid : (t : PlanText) (g : Graph) (rate : Rate) (v : ℕ) (links : List Link) (lead : ℕ) → IsAccepted t g → HasNumbers t.lo t.hi t.mu rate → g ≡ graph_of_text t
    → links ≡ map (link_in t v) (neighbours_of g v) → lead ≡ iota_in t → IsTopology g → v < g.nodes → t.cluster < 2 ^ 32 → t.every < 2 ^ 32
    → AreValid (record { cluster = t.cluster; node = v; links = links; rate = rate; iota = lead; every = t.every })
params_are_valid t g rate v links lead is numbers graph are lead_is shape inside cluster every =
    let rates = rate.accepted in
    let lo : rate.lo ≡ t.lo = numbers.lo in
    let hi : rate.hi ≡ t.hi = numbers.hi in
    let mu : rate.mu ≡ t.mu = numbers.mu in
    let low : t.lo ≤ 2 ^ 30 = omega (arith, rates, lo, hi) in
    let tenth : 10 * boosted t.mu t.hi ≤ t.hi = boosted_tenth t.mu t.hi (omega (arith, rates, mu)) in
    let ticks : drift_in t * t.tick ≤ drift_in t * 65536 = mul-le-mul_left (drift_in t) is.tick_most in
    let next : (k : ℕ) (d : ℕ) → k < length (neighbours_of g v) → Adjacent g v (get_or (neighbours_of g v) k d) = λ k d h. (neighbour_inside g v k d h).1 in
    let alone : Adjacent g v v → ⊥ = λ h. no_self (shape_nodes t.shape) (shape_edges t.shape) v (subst (λ x. Adjacent x v v) graph h) in
    let count : length (map (link_in t v) (neighbours_of g v)) ≡ length (neighbours_of g v) = length-map (neighbours_of g v) (link_in t v) in
    record {
      ranges = record {
        cluster = cluster;
        node = omega (arith, inside, shape.few);
        every = every;
        links = rw are (All-map (λ link. link.node < 2 ^ 32) (link_in t v) (neighbours_of g v) (λ k d h.
            let node = (neighbour_inside g v k d h).0 in omega (arith, node, shape.few)));
      };
      few = rw (are, count) (let fewer = few_neighbours g v inside alone in omega (arith, fewer, shape.few));
      ascending = rw (are, linked t v (neighbours_of g v)) (neighbours_ascend g v);
      others = rw are (All-map (λ link. link.node ≢ v) (link_in t v) (neighbours_of g v) (λ k d h. λ same.
          alone (subst (λ x. Adjacent g v x) same (next k d h))));
      sound = rw are (All-map IsSound (link_in t v) (neighbours_of g v) (λ k d h. sound_link t g v (get_or (neighbours_of g v) k d) low is (next k d h)));
      iota = omega (arith, ticks, tenth, lead_is, rates, lo, hi);
      every = is.every;
    }
