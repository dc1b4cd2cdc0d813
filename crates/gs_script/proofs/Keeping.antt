-- What is kept of nodes and senders, one more at a time.
use Rattle.std.proofs.Common.{◌≡◌, ◌≢◌, ◌∙◌, ◌<◌, ◌≤◌, ◌+◌, ℕ, List, [], ◌∷◌, ◌++◌, length, length-append, replicate, set, get_or, slice_get, slice_index, max, not, Some, refl, sym, ap, arith, inl, inr}
use Rattle.std.specs.List.{range_with_len}
use Rattle.std.proofs.lemmas.List.Kept.{AllPairs-from_increasing}
use Rattle.std.proofs.lemmas.Bool.{cases_lt}
use Rattle.std.proofs.lemmas.List.{get_or-set_other, get_or-set_same, get_or_append_left, get_or_default, get_or_push, length-replicate, length-set}
use Rattle.std.proofs.lemmas.List.Filters.{length-filter_both}
use Rattle.std.proofs.lemmas.List.FromFn.{length-range_with_len}
use Rattle.std.proofs.lemmas.Option.{get_or_from_slice_get}
use Rattle.gs_topo.specs.Graph.{Graph, Adjacent, adjacent, neighbours_of, number_of}
use Rattle.gs_topo.proofs.Members.{Contains-filter, Contains-range}
use Rattle.gs_topo.proofs.Nearer.{neighbour_inside}
use Rattle.gs_planfile.specs.declared.text.PlanText.{PlanText}
use Rattle.gs_plan.specs.declared.edge.EdgeNumbers.{EdgeNumbers}
use Rattle.gs_plan.specs.Edges.{edge_given}
use Rattle.gs_plan.specs.Numbers.{numbers_in, numbers_of}
use Rattle.gs_plan.specs.Shapes.{graph_of_text}
use Rattle.gs_plan.proofs.Linking.{has_number, numbers_at}
use Rattle.gs_plan.proofs.Telling.{neighbours_ascend}
use Rattle.gs_script.specs.declared.kept.NodeRecords.{NodeRecords}
use Rattle.gs_script.specs.declared.kept.WayRecords.{WayRecords}
use Rattle.gs_script.specs.declared.kept.Ways.{Ways}
use Rattle.gs_script.specs.declared.line.Line.{Line}
use Rattle.gs_script.specs.inside.Kept.{HasAllWays, HasNodes, HasWays, IsNode, IsWay, least_between}

-- a neighbour has a place among them
place_of : (g : Graph) (v w : ℕ) → w < g.nodes → Adjacent g v w → (j : ℕ) × (j < length (neighbours_of g v)) × (slice_index (neighbours_of g v) j ≡ w)
place_of g v w inside next =
    let m = Contains-filter (adjacent g v) (range_with_len 0 g.nodes) w next (Contains-range 0 g.nodes w (omega arith) (omega (arith, inside))) in
    (m.0, m.1, get_or_default (neighbours_of g v) m.0 0 w m.1 ∙ m.2)

-- no more than there are nodes
pub few_neighbours : (g : Graph) (v : ℕ) → length (neighbours_of g v) ≤ g.nodes
few_neighbours g v =
    let both = length-filter_both (adjacent g v) (λ w. not (adjacent g v w)) (λ w. refl) (range_with_len 0 g.nodes) in
    omega (arith, both, length-range_with_len 0 g.nodes)

-- no way
pub ways-none : (t : PlanText) (lines : List Line) (v : ℕ) → HasWays t lines v 0 (replicate (graph_of_text t).nodes 0) []
ways-none t lines v = record {
  count = length-replicate (graph_of_text t).nodes 0;
  made = refl;
  place = λ i h. absurd (omega (arith, h));
  each = λ i d h. absurd (omega (arith, h));
}

-- one way more
pub ways-more : (t : PlanText) (lines : List Line) (v k w : ℕ) (index : List ℕ) (ways : List WayRecords) (way : WayRecords) → k < length (neighbours_of (graph_of_text t) v)
    → w ≡ slice_index (neighbours_of (graph_of_text t) v) k → IsWay t lines v w way → HasWays t lines v k index ways → HasWays t lines v (k + 1) (set index w k) (ways ++ way ∷ [])
ways-more t lines v k w index ways way inside is here has = record {
  count = length-set index w k ∙ has.count;
  made = length-append ways (way ∷ []) ∙ (let m = has.made in omega (arith, m));
  place = λ i h. elim (cases_lt i k) [ inl lt ↦ old i lt | inr le ↦ new i (omega (arith, h, le)) ];
  each = λ i d h. elim (cases_lt i k) [
    | inl lt ↦ (let there : i < length ways = (let m = has.made in omega (arith, m, lt)) in rw (get_or_append_left ways (way ∷ []) d i there) (has.each i d lt))
    | inr le ↦ (let same : i ≡ k = omega (arith, h, le) in rw (get_or_push ways way d i (has.made ∙ sym same), same, ← is) here)
  ];
} where
  ns : List ℕ
  ns = neighbours_of (graph_of_text t) v

  old : (i : ℕ) → i < k → slice_index (set index w k) (slice_index ns i) ≡ i
  old i lt =
      let less : slice_index ns i < slice_index ns k = AllPairs-from_increasing ns (neighbours_ascend (graph_of_text t) v) i k 0 lt inside in
      let other : slice_index ns i ≢ w = λ same. omega (arith, less, same, is) in
      get_or-set_other index w (slice_index ns i) k 0 other ∙ has.place i lt

  new : (i : ℕ) → i ≡ k → slice_index (set index w k) (slice_index ns i) ≡ i
  new i same =
      let below = (neighbour_inside (graph_of_text t) v k 0 inside).0 in
      let there : w < length index = (let c = has.count in omega (arith, below, is, c)) in
      rw (same, ← is) (get_or-set_same index w k 0 there)

-- no node
pub nodes-none : (t : PlanText) (lines : List Line) → HasNodes t lines 0 []
nodes-none t lines = record {
  count = refl;
  each = λ v d h. absurd (omega (arith, h));
}

-- one node more
pub nodes-more : (t : PlanText) (lines : List Line) (n : ℕ) (nodes : List NodeRecords) (s : NodeRecords) → HasNodes t lines n nodes → IsNode t lines n s → HasNodes t lines (n + 1) (nodes ++ s ∷ [])
nodes-more t lines n nodes s has here = record {
  count = length-append nodes (s ∷ []) ∙ (let c = has.count in omega (arith, c));
  each = λ v d h. elim (cases_lt v n) [
    | inl lt ↦ (let inside : v < length nodes = (let c = has.count in omega (arith, c, lt)) in rw (get_or_append_left nodes (s ∷ []) d v inside) (has.each v d lt))
    | inr le ↦ (let is : v ≡ n = omega (arith, h, le) in rw (get_or_push nodes s d v (has.count ∙ sym is), is) here)
  ];
}

-- the least delay by the number of an edge
pub least_by_number : (t : PlanText) (v w e : ℕ) (n : EdgeNumbers) → number_of (graph_of_text t) v w ≡ Some e → slice_get (numbers_of t (graph_of_text t)) e ≡ Some n → max n.delay_min 1 ≡ least_between t v w
least_by_number t v w e n number at =
    let found = numbers_at t (graph_of_text t) v w e n number in
    let here : n ≡ numbers_in t (edge_given t (v, w)) = sym (get_or_from_slice_get (numbers_of t (graph_of_text t)) e n n at) ∙ found.1 in
    ap (λ (x : EdgeNumbers). max x.delay_min 1) here

pub ruleset ways_from = (ways-none, ways-more, neighbour_inside)

pub ruleset nodes = (nodes-none, nodes-more)

pub ruleset least = (has_number, least_by_number)

-- what is kept of a node of the plan
pub node_at : (t : PlanText) (lines : List Line) (n v : ℕ) (ns : List NodeRecords) (d : NodeRecords) → HasNodes t lines n ns → v < n → (v < length ns) × IsNode t lines v (get_or ns v d)
node_at t lines n v ns d has h = ((let c = has.count in omega (arith, c, h)), has.each v d h)

-- the place of a neighbour
pub place_at : (t : PlanText) (lines : List Line) (v w : ℕ) (ways : Ways) → HasAllWays t lines v ways → w < (graph_of_text t).nodes → Adjacent (graph_of_text t) v w
    → (w < length ways.index.items) × (slice_index ways.index.items w < length ways.items.items)
place_at t lines v w ways has node next =
    let count : length ways.index.items ≡ (graph_of_text t).nodes = has.count in
    let made : length ways.items.items ≡ length (neighbours_of (graph_of_text t) v) = has.made in
    let place = place_of (graph_of_text t) v w node next in
    let inside = place.1 in
    let at : slice_index ways.index.items w ≡ place.0 = rw place.2 at (has.place place.0 inside) in
    (omega (arith, count, node), omega (arith, at, made, inside))

-- what is kept of the way to it
pub way_at : (t : PlanText) (lines : List Line) (v w : ℕ) (ways : Ways) (d : WayRecords) → HasAllWays t lines v ways → w < (graph_of_text t).nodes → Adjacent (graph_of_text t) v w
    → IsWay t lines v w (get_or ways.items.items (slice_index ways.index.items w) d)
way_at t lines v w ways d has node next =
    let place = place_of (graph_of_text t) v w node next in
    let at : slice_index ways.index.items w ≡ place.0 = rw place.2 at (has.place place.0 place.1) in
    rw at (rw place.2 at (has.each place.0 d place.1))
