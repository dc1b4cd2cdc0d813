-- Tables of weights: by a search, and of equal lengths.
use Rattle.std.proofs.Common.{◌≡◌, ℕ, ◌+◌, ◌*◌, ◌<◌, ◌≤◌, ◌^◌, inl, inr, arith, ap, sym, refl, ◌∙◌, List, [], ◌++◌, length, map, Bool, true, false, All, slice_index, get_or, get_or-append-add, length-append, Option, Some, None}
use Rattle.std.specs.List.{range_with_len, list_any, position, position_or_len}
use Rattle.std.specs.Option.{option_map_or}
use Rattle.std.proofs.Math.Nat.{add-mul, mul-le-mul_left, mul_comm}
use Rattle.std.proofs.lemmas.Nat.{mul-add-lt}
use Rattle.std.proofs.lemmas.Bool.{cases_lt, lt-ltb}
use Rattle.std.proofs.lemmas.List.{get_or_append_left}
use Rattle.std.proofs.lemmas.List.Sums.{fails_before_first}
use Rattle.std.proofs.lemmas.List.FromFn.{length-map-range_with_len, get_or-map-range_with_len}
use Rattle.gs_topo.specs.Graph.{adjacent, Adjacent, joins, neighbours_of, number_of}
use Rattle.gs_topo.specs.inside.Search.{AreSteps, AreSums, far_sum, steps_over}
use Rattle.gs_topo.specs.declared.steps.Step.{Step}
use Rattle.gs_topo.specs.Walks.{IsTopology, IsLeast, IsWalk, length_of, one_each, distance_of}
use Rattle.gs_topo.specs.Weights.{Lengths, length_between}
use Rattle.gs_topo.specs.inside.Weighted.{AreRows}
use Rattle.gs_topo.proofs.Members.{member-from_list_any}
use Rattle.gs_topo.proofs.Walks.{below_walks, sum_is_small, sum_of_equal}
use Rattle.gs_topo.proofs.Distances.{is_least, is_below}

-- a length is that of an edge, or 0
between_small : (lengths : List ℕ) (o : Option ℕ) → ((i : ℕ) → slice_index lengths i < 2 ^ 64) → option_map_or (slice_index lengths) o 0 ≤ 2 ^ 64
between_small lengths None small = omega arith
between_small lengths (Some i) small = let s = small i in omega (arith, s)

-- a search from a node finds the least sums, where walks lead everywhere
pub sum_is_least : (l : Lengths) (source w : ℕ) (sums : List ℕ) → IsTopology l.graph → ((i : ℕ) → slice_index l.lengths i < 2 ^ 64) → AreSums l.graph.nodes (adjacent l.graph) (length_between l) far_sum source sums
    → source < l.graph.nodes → w < l.graph.nodes → IsLeast (Adjacent l.graph) l.graph.nodes (length_between l) source w (slice_index sums w)
sum_is_least l source w sums is small s hs hw =
    let g = l.graph in
    let least = is_least g is.connected source w hs hw in
    let walk = least.some in
    let few = is_below g is.connected source w hs hw in
    let most = below_walks (Adjacent g) g.nodes (length_between l) (λ x. slice_index sums x) s.near source w walk.0 hs walk.1 in
    let short : length_of (length_between l) source walk.0 ≤ 2 ^ 64 * length_of one_each source walk.0 =
    sum_is_small (Adjacent g) g.nodes (length_between l) one_each (2 ^ 64) (λ a b ha hb next. let b = between_small l.lengths (number_of g a b) small in omega (arith, b)) source w walk.0 hs walk.1 in
    record {
      some = s.known w hw (omega (arith, most, short, walk.2, few, is.few, s.start));
      each = λ xs other. let le = below_walks (Adjacent g) g.nodes (length_between l) (λ x. slice_index sums x) s.near source w xs hs other in omega (arith, le, s.start);
    }

-- one row more
pub rows_more : (l : Lengths) (source : ℕ) (table sums : List ℕ) → IsTopology l.graph → ((i : ℕ) → slice_index l.lengths i < 2 ^ 64) → source < l.graph.nodes
    → AreSums l.graph.nodes (adjacent l.graph) (length_between l) far_sum source sums → AreRows l source table → AreRows l (source + 1) (table ++ sums)
rows_more l source table sums is small hs s rows =
    let n : ℕ = l.graph.nodes in
    let both = length-append table sums in
    let product : (source + 1) * n ≡ source * n + 1 * n = add-mul source 1 n in
    record {
      count = omega (arith, both, rows.count, s.count, product);
      least = λ v w hv hw. elim (cases_lt v source) [
        | inl earlier ↦
            let inside : v * n + w < length table = (let b = mul-add-lt v n w source earlier hw in let t = mul_comm n source in omega (arith, b, t, rows.count)) in
            rw (get_or_append_left table sums 0 (v * n + w) inside) (rows.least v w earlier hw)
        | inr last ↦
            let same : v ≡ source = omega (arith, last, hv) in
            let place : source * n + w ≡ length table + w = omega (arith, rows.count) in
            rw (same, place, get_or-append-add table sums w 0) (sum_is_least l source w sums is small s hs hw)
      ];
    }

-- the steps that the search takes
pub weighted_steps : (l : Lengths) (all : List (List Step)) → all ≡ map (λ v. steps_over (length_between l v) (neighbours_of l.graph v)) (range_with_len 0 l.graph.nodes)
    → AreSteps l.graph.nodes (adjacent l.graph) (length_between l) all
weighted_steps l all are =
    let f : ℕ → List Step = λ v. steps_over (length_between l v) (neighbours_of l.graph v) in
    record {
      count = rw are (length-map-range_with_len f 0 l.graph.nodes);
      each = λ u hu. rw are (get_or-map-range_with_len f 0 l.graph.nodes u u [] hu (omega arith));
    }

-- what some element passes is found at a place
pub found_place : {X : Type 0} (p : X → Bool) (xs : List X) → list_any p xs ≡ true → (i : ℕ) × (i < length xs) × (position p xs ≡ Some i)
found_place p xs h =
    let m = member-from_list_any p xs h in
    let k : ℕ = m.1.0 in
    let passes : p (get_or xs k m.0) ≡ true = ap p m.1.2 ∙ m.2 in
    let low : position_or_len p xs ≤ k = elim (cases_lt k (position_or_len p xs)) [
      | inl before ↦ let no = fails_before_first p xs k m.0 before in let clash : true ≡ false = sym passes ∙ no in cc
      | inr le ↦ le
    ] in
    let inside : position_or_len p xs < length xs = (let h = m.1.1 in omega (arith, low, h)) in
    (position_or_len p xs, inside, rw (lt-ltb (position_or_len p xs) (length xs) inside) refl)

-- equal lengths
between_equal : (l : Lengths) (common : ℕ) → length l.lengths ≡ length l.graph.edges → All (λ x. x ≡ common) l.lengths → (v w : ℕ) → Adjacent l.graph v w → length_between l v w ≡ common * 1
between_equal l common count equal v w next =
    let place = found_place (λ e. joins e v w) l.graph.edges next in
    let inside : place.0 < length l.lengths = (let h = place.1 in rw count h) in
    let is : slice_index l.lengths place.0 ≡ common = equal place.0 0 inside in
    let one : common * 1 ≡ common = omega arith in
    rw (place.2, one) is

pub scaled_least : (l : Lengths) (common : ℕ) → IsTopology l.graph → length l.lengths ≡ length l.graph.edges → All (λ x. x ≡ common) l.lengths → (v w : ℕ) → v < l.graph.nodes → w < l.graph.nodes
    → IsLeast (Adjacent l.graph) l.graph.nodes (length_between l) v w (common * distance_of l.graph v w)
scaled_least l common is count equal v w hv hw =
    let g = l.graph in
    let least = is_least g is.connected v w hv hw in
    let walk = least.some in
    let scaled : (xs : List ℕ) → IsWalk (Adjacent g) g.nodes v xs w → length_of (length_between l) v xs ≡ common * length_of one_each v xs = λ xs walk.
    sum_of_equal (Adjacent g) g.nodes (length_between l) one_each common (λ a b ha hb next. between_equal l common count equal a b next) v w xs hv walk in
    record {
      some = (walk.0, walk.1, scaled walk.0 walk.1 ∙ ap (λ (x : ℕ). common * x) walk.2);
      each = λ xs other. let le : common * distance_of g v w ≤ common * length_of one_each v xs = mul-le-mul_left common (least.each xs other) in rw (scaled xs other) le;
    }
