-- What a list of edges without a fault makes.
use Rattle.std.proofs.Common.{◌≡◌, ◌≢◌, ℕ, ◌+◌, ◌*◌, ◌<◌, ◌≤◌, ◌⊎◌, ◌&&◌, ◌==◌, nat_lt, not, inl, inr, arith, ap, sym, refl, ◌∙◌, List, [], ◌∷◌, ◌++◌, length, map, filter, cond, if◌then◌else◌, Bool, true, false, IsTrue, All, AllPairs, get_or, ltb, slice_index, Option, Some, None, eqb, option_map}
use Rattle.std.specs.Option.{option_or}
use Rattle.std.specs.List.{range_with_len, IsDistinct}
use Rattle.std.proofs.lemmas.Bool.{eq-eqb, ne_eqb, le-ltb, lt-ltb, false_from_ne_true, cond-true, cond-false}
use Rattle.std.proofs.lemmas.List.{get_or-map, length-map, get_or_default}
use Rattle.std.proofs.lemmas.List.Elements.{All-cons, All-head, All-tail, All-nil, All-weaker, All-filter, All-contains, filter_passes}
use Rattle.std.proofs.lemmas.List.FromFn.{fill_by_all, length-map-range_with_len, get_or-map-range_with_len}
use Rattle.std.proofs.lemmas.Map.Made.{length-le_from_is_member, is_member-Decides}
use Rattle.std.proofs.lemmas.Map.Keys.{IsDistinct-from_apart}
use Rattle.std.proofs.lemmas.Bool.Decides.{Decides-eqb}
use Rattle.std.proofs.lemmas.Cmp.{nat_eq_equiv}
use Rattle.std.proofs.lemmas.Nat.{same_from_place}
use Rattle.gs_topo.specs.declared.fault.TopoFault.TheVariants.{Node, Loop, Double, Split}
use Rattle.gs_topo.specs.declared.steps.Step.{Step}
use Rattle.gs_topo.specs.Faults.{edge_fault, edges_fault, split_fault, fault_of}
use Rattle.gs_topo.specs.Graph.{Graph, IsBefore, joins, joined, adjacent, Adjacent, neighbours_of, pairs_below, graph_of}
use Rattle.gs_topo.specs.inside.Kept.{HasFlags, flag_at}
use Rattle.gs_topo.specs.inside.Search.{AreBelow, AreSteps, AreSums, AreInside, steps_over, far_level}
use Rattle.gs_topo.specs.Walks.{IsWalk, IsTopology, IsSplitAt, one_each, reaches}
use Rattle.gs_topo.proofs.Members.{Contains-map, member-from_list_any, range_below}
use Rattle.gs_topo.proofs.Walks.{walk_append, turned, below_walks}
use Rattle.gs_topo.proofs.Searching.{each_step}
use Rattle.gs_topo.proofs.Distances.{IsConnected, IsLevelled, is_reached, is_not_reached, levels_below, found_first, found_none, both_ways}
use Rattle.gs_topo.proofs.Ascending.{Ascends-filter, all_pairs, pairs_ascend, pairs_within, joins-cases, adjacent_is_joined}

none_of : {X : Type 0} (x y : Option X) → option_or x y ≡ None → (x ≡ None) × (y ≡ None)
none_of None y h = (refl, h)
none_of (Some x) y h = cc

no_loop : (x y z : Bool) (i : ℕ) → (if x then Some (Node i) else if y then Some (Loop i) else if z then Some (Double i) else None) ≡ None → y ≡ false
no_loop true y z i h = cc
no_loop false true z i h = cc
no_loop false false z i h = refl

no_loops : (n : ℕ) (before : List (ℕ × ℕ)) (i : ℕ) (es : List (ℕ × ℕ)) → edges_fault n before i es ≡ None → All (λ e. (e.0 == e.1) ≡ false) es
unfolding edges_fault
no_loops n before i [] h = All-nil (λ e. (e.0 == e.1) ≡ false)
no_loops n before i (e ∷ es) h =
    let parts = none_of (edge_fault n before i e) (edges_fault n (before ++ e ∷ []) (i + 1) es) h in
    All-cons (λ e. (e.0 == e.1) ≡ false) e es (no_loop (not (nat_lt e.0 n && nat_lt e.1 n)) (e.0 == e.1) (joined before e.0 e.1) i parts.0)
    (no_loops n (before ++ e ∷ []) (i + 1) es parts.1)

-- no node is joined to itself
pub plain : (n : ℕ) (given : List (ℕ × ℕ)) → edges_fault n [] 0 given ≡ None → (u : ℕ) → joined given u u ≡ false
plain n given sound u = false_from_ne_true (joined given u u) (λ yes.
    let m = member-from_list_any (λ e. joins e u u) given yes in
    let differ : (m.0.0 == m.0.1) ≡ false = All-contains (λ e. (e.0 == e.1) ≡ false) given m.0 (no_loops n [] 0 given sound) m.1 in
    let same : m.0.0 ≡ m.0.1 = elim (joins-cases m.0 u u m.2) [ inl there ↦ there.0 ∙ sym there.1 | inr back ↦ back.0 ∙ sym back.1 ] in
    let clash : true ≡ false = sym (eq-eqb m.0.0 m.0.1 same) ∙ differ in cc)

-- tests that agree on a list keep the same of it
pub filter_same : {X : Type 0} (p q : X → Bool) (xs : List X) → All (λ x. p x ≡ q x) xs → filter p xs ≡ filter q xs
filter_same p q [] same = refl
filter_same p q (x ∷ xs) same =
    let rest = filter_same p q xs (All-tail (λ x. p x ≡ q x) x xs same) in
    let first : p x ≡ q x = All-head (λ x. p x ≡ q x) x xs same in
    rw (first, rest) refl

-- the flags of the given edges are the edges and the neighbours of the graph
pub edges_are : (n : ℕ) (given : List (ℕ × ℕ)) (flags : List Bool) → HasFlags n (joined given) flags → filter (λ e. flag_at flags n e.0 e.1) (pairs_below n) ≡ (graph_of n given).edges
edges_are n given flags has = filter_same (λ e. flag_at flags n e.0 e.1) (λ e. joined given e.0 e.1) (pairs_below n)
    (All-weaker (λ e. (e.0 < e.1) × (e.1 < n)) (λ e. flag_at flags n e.0 e.1 ≡ joined given e.0 e.1) (λ e h. has.each e.0 e.1 (omega (arith, h)) h.1) (pairs_below n) (pairs_within n))

pub lists_are : (n : ℕ) (given : List (ℕ × ℕ)) (flags : List Bool) → HasFlags n (joined given) flags → edges_fault n [] 0 given ≡ None
    → map (λ v. filter (flag_at flags n v) (range_with_len 0 n)) (range_with_len 0 n) ≡ map (neighbours_of (graph_of n given)) (range_with_len 0 n)
lists_are n given flags has sound =
    let row : ℕ → List ℕ = λ v. filter (flag_at flags n v) (range_with_len 0 n) in
    fill_by_all (neighbours_of (graph_of n given)) (map row (range_with_len 0 n)) n [] (length-map-range_with_len row 0 n) (λ v hv.
    get_or-map-range_with_len row 0 n v v [] hv (omega arith)
    ∙ filter_same (flag_at flags n v) (adjacent (graph_of n given) v) (range_with_len 0 n)
    (All-weaker (λ x. (0 ≤ x) × (x < 0 + n)) (λ w. flag_at flags n v w ≡ adjacent (graph_of n given) v w)
    (λ w h. let hw : w < n = omega (arith, h) in has.each v w hv hw ∙ sym (adjacent_is_joined n given (plain n given sound) v w hv hw)) (range_with_len 0 n) (range_below 0 n)))

-- each neighbour is a node
pub lists_below : (g : Graph) (lists : List (List ℕ)) → lists ≡ map (neighbours_of g) (range_with_len 0 g.nodes) → AreBelow lists
lists_below g lists are u d hu =
    let count : length lists ≡ g.nodes = rw are (length-map-range_with_len (neighbours_of g) 0 g.nodes) in
    let inside : u < g.nodes = rw count at hu in
    let list : get_or lists u d ≡ neighbours_of g u = rw are (get_or-map-range_with_len (neighbours_of g) 0 g.nodes u u d inside (omega arith)) in
    rw (list, count) (All-weaker (λ x. (0 ≤ x) × (x < 0 + g.nodes)) (λ x. x < g.nodes) (λ x h. omega (arith, h)) (neighbours_of g u)
    (All-filter (adjacent g u) (λ x. (0 ≤ x) × (x < 0 + g.nodes)) (range_with_len 0 g.nodes) (range_below 0 g.nodes)))

pub inside_of : (n : ℕ) (adj : ℕ → ℕ → Bool) (k : ℕ → ℕ → ℕ) (all : List (List Step)) → AreSteps n adj k all → All (AreInside (length all)) all
inside_of n adj k all are u d hu =
    let inside : u < n = rw are.count at hu in
    let list : get_or all u d ≡ steps_over (k u) (filter (adj u) (range_with_len 0 n)) = get_or_default all u d [] hu ∙ are.each u inside in
    rw (list, are.count) (All-weaker (λ (s : Step). IsTrue (adj u s.to) × (s.to < n) × (s.length ≡ k u s.to)) (λ s. s.to < n) (λ s h. h.1) (steps_over (k u) (filter (adj u) (range_with_len 0 n))) (each_step n adj k u))

-- what node 0 reaches, by the sums of a search from it
levels_of : (g : Graph) (sums : List ℕ) → AreSums g.nodes (adjacent g) one_each far_level 0 sums → IsLevelled g 0 (λ x. slice_index sums x)
levels_of g sums s = record { start = s.start; near = s.near }

pub reached : (g : Graph) (sums : List ℕ) (v : ℕ) → AreSums g.nodes (adjacent g) one_each far_level 0 sums → 1 ≤ g.nodes → v < g.nodes → slice_index sums v ≢ far_level → reaches g 0 v ≡ true
reached g sums v s some hv other =
    let small = s.small v in
    let walk = s.known v hv (omega (arith, small, other)) in
    is_reached g 0 v (λ x. slice_index sums x) (levels_of g sums s) (omega arith) walk.0 walk.1 walk.2

pub not_reached : (g : Graph) (sums : List ℕ) (v : ℕ) → AreSums g.nodes (adjacent g) one_each far_level 0 sums → 1 ≤ g.nodes → g.nodes ≤ 512 → slice_index sums v ≡ far_level → reaches g 0 v ≡ false
not_reached g sums v s some few far_off = is_not_reached g 0 v (λ xs walk.
    let le = below_walks (Adjacent g) g.nodes one_each (λ x. slice_index sums x) s.near 0 v xs (omega arith) walk in
    omega (arith, le, s.start, far_off, few))

pub split_at : (g : Graph) (sums : List ℕ) (v : ℕ) → AreSums g.nodes (adjacent g) one_each far_level 0 sums → 1 ≤ g.nodes → g.nodes ≤ 512 → v < g.nodes → slice_index sums v ≡ far_level
    → ((u : ℕ) → u < v → slice_index sums u ≢ far_level) → split_fault g ≡ Some (Split v)
unfolding split_fault
split_at g sums v s some few hv far_off before =
    ap (option_map Split) (found_first (λ u. not (reaches g 0 u)) 0 g.nodes v (omega arith) (omega arith) (rw (not_reached g sums v s some few far_off) refl)
    (λ u low less. rw (reached g sums u s some (omega arith) (before u less)) refl))

pub is_split : (g : Graph) (sums : List ℕ) (v : ℕ) → AreSums g.nodes (adjacent g) one_each far_level 0 sums → 1 ≤ g.nodes → g.nodes ≤ 512 → v < g.nodes → slice_index sums v ≡ far_level
    → ((u : ℕ) → u < v → slice_index sums u ≢ far_level) → IsSplitAt g v
is_split g sums v s some few hv far_off before = record {
  node = hv;
  apart = λ xs walk.
      let below = levels_below (Adjacent g) g.nodes (λ x. slice_index sums x) s.near 0 v xs (omega arith) walk s.start in
      omega (arith, below, far_off, few);
  first = λ u less.
      let small = s.small u in
      let known = before u less in
      let walk = s.known u (omega (arith, less, hv)) (omega (arith, small, known)) in
      (walk.0, walk.1);
}

pub no_split : (g : Graph) (sums : List ℕ) → AreSums g.nodes (adjacent g) one_each far_level 0 sums → 1 ≤ g.nodes → ((u : ℕ) → u < g.nodes → slice_index sums u ≢ far_level) → split_fault g ≡ None
unfolding split_fault
no_split g sums s some all =
    ap (option_map Split) (found_none (λ u. not (reaches g 0 u)) 0 g.nodes (λ u low less. let hu : u < g.nodes = omega (arith, less) in rw (reached g sums u s some hu (all u hu)) refl))

pub connected : (g : Graph) (sums : List ℕ) → AreSums g.nodes (adjacent g) one_each far_level 0 sums → 1 ≤ g.nodes → ((u : ℕ) → u < g.nodes → slice_index sums u ≢ far_level) → IsConnected g
connected g sums s some all v w hv hw =
    let from : (x : ℕ) → x < g.nodes → (xs : List ℕ) × IsWalk (Adjacent g) g.nodes 0 xs x = λ x hx.
    let small = s.small x in let other = all x hx in let walk = s.known x hx (omega (arith, small, other)) in (walk.0, walk.1) in
    let there = from v hv in
    let back = turned (Adjacent g) g.nodes one_each (both_ways g) (λ a b. refl) 0 v there.0 (omega arith) there.1 in
    let on = from w hw in
    (back.0 ++ on.0, walk_append (Adjacent g) g.nodes v 0 w back.0 on.0 back.1 on.1)

-- there are no more edges than were given
code : ℕ → ℕ × ℕ → ℕ
code n e = e.0 * n + e.1

code_of_given : ℕ → ℕ × ℕ → ℕ
code_of_given n e = cond (ltb e.0 e.1) (e.0 * n + e.1) (e.1 * n + e.0)

given_code : (n : ℕ) (f e : ℕ × ℕ) → e.0 < e.1 → joins f e.0 e.1 ≡ true → code_of_given n f ≡ code n e
unfolding code code_of_given
given_code n f e upright h = elim (joins-cases f e.0 e.1 h) [
  | inl there ↦ rw (there.0, there.1) (cond-true (ltb e.0 e.1) _ _ (lt-ltb e.0 e.1 upright))
  | inr back ↦ rw (back.0, back.1) (cond-false (ltb e.1 e.0) _ _ (le-ltb e.1 e.0 (omega (arith, upright))))
]

pub few_edges : (n : ℕ) (given : List (ℕ × ℕ)) → length (graph_of n given).edges ≤ length given
unfolding code
few_edges n given =
    let test : ℕ × ℕ → Bool = λ e. joined given e.0 e.1 in
    let es : List (ℕ × ℕ) = filter test (pairs_below n) in
    let within : All (λ e. (e.0 < e.1) × (e.1 < n)) es = All-filter test (λ e. (e.0 < e.1) × (e.1 < n)) (pairs_below n) (pairs_within n) in
    let passes : All (λ e. test e ≡ true) es = filter_passes test (pairs_below n) in
    let ascending : AllPairs IsBefore es = all_pairs es (Ascends-filter test (pairs_below n) (pairs_ascend n)) in
    let xs : List ℕ = map (code n) es in
    let ys : List ℕ = map (code_of_given n) given in
    let distinct : IsDistinct eqb xs = IsDistinct-from_apart eqb xs (λ i j d less inside.
    let hj : j < length es = rw (length-map es (code n)) at inside in
    let hi : i < length es = omega (arith, hj, less) in
    let a = get_or es i (0, 0) in
    let b = get_or es j (0, 0) in
    let ia : get_or xs i d ≡ a.0 * n + a.1 = get_or-map (code n) es i (0, 0) d hi in
    let ib : get_or xs j d ≡ b.0 * n + b.1 = get_or-map (code n) es j (0, 0) d hj in
    let wa = within i (0, 0) hi in
    let wb = within j (0, 0) hj in
    rw (ia, ib) (ne_eqb (a.0 * n + a.1) (b.0 * n + b.1) (λ e.
    let same = same_from_place a.0 a.1 b.0 b.1 n wa.1 wb.1 e in
    elim (ascending i j (0, 0) less hj) [ inl lower ↦ omega (arith, lower, same) | inr level ↦ (let l = level.1 in omega (arith, l, same)) ]))) in
    let le = length-le_from_is_member nat_eq_equiv xs ys distinct (λ q has.
    let m = (is_member-Decides Decides-eqb xs q).0 has in
    let hk : m.0 < length es = (let h = m.1 in rw (length-map es (code n)) at h) in
    let e = get_or es m.0 (0, 0) in
    let is : code n e ≡ q = sym (get_or-map (code n) es m.0 (0, 0) q hk) ∙ m.2 in
    let f = member-from_list_any (λ x. joins x e.0 e.1) given (passes m.0 (0, 0) hk) in
    let same : code_of_given n f.0 ≡ q = given_code n f.0 e (within m.0 (0, 0) hk).0 f.2 ∙ is in
    (is_member-Decides Decides-eqb ys q).1 (rw same at (Contains-map (code_of_given n) given f.0 f.1))) in
    omega (arith, le, length-map es (code n), length-map given (code_of_given n))

pub is_graph : (n : ℕ) (given : List (ℕ × ℕ)) → 1 ≤ n → n ≤ 512 → length given ≤ 4096 → IsConnected (graph_of n given) → IsTopology (graph_of n given)
is_graph n given some few many together =
    let test : ℕ × ℕ → Bool = λ e. joined given e.0 e.1 in
    let within : All (λ e. (e.0 < e.1) × (e.1 < n)) (graph_of n given).edges = All-filter test (λ e. (e.0 < e.1) × (e.1 < n)) (pairs_below n) (pairs_within n) in
    record {
      some = some;
      few = few;
      few_edges = (let le = few_edges n given in omega (arith, le, many));
      upright = λ i d h. (within i d h).0;
      below = λ i d h. (within i d h).1;
      ascending = all_pairs (graph_of n given).edges (Ascends-filter test (pairs_below n) (pairs_ascend n));
      connected = together;
    }

-- the fault where the counts are in range
pub fault_is : (n : ℕ) (given : List (ℕ × ℕ)) → 1 ≤ n → n ≤ 512 → length given ≤ 4096 → fault_of n given ≡ option_or (edges_fault n [] 0 given) (split_fault (graph_of n given))
fault_is n given some few many =
    let a : (n == 0) ≡ false = ne_eqb n 0 (λ e. omega (arith, e, some)) in
    let b : nat_lt 512 n ≡ false = le-ltb 512 n few in
    let c : nat_lt 4096 (length given) ≡ false = le-ltb 4096 (length given) many in
    rw (a, b, c) refl

-- what is known of a list of edges after the search from node 0
pub record IsSearched (n : ℕ) (given : List (ℕ × ℕ)) (sums : List ℕ) : Type 0 where
  pub some : 1 ≤ n
  pub few : n ≤ 512
  pub many : length given ≤ 4096
  pub sound : edges_fault n [] 0 given ≡ None
  pub found : AreSums n (adjacent (graph_of n given)) one_each far_level 0 sums

pub split_found : (n : ℕ) (given : List (ℕ × ℕ)) (sums : List ℕ) (v : ℕ) → IsSearched n given sums → v < length sums → slice_index sums v ≡ far_level → ((u : ℕ) → u < v → slice_index sums u ≢ far_level)
    → fault_of n given ≡ Some (Split v)
split_found n given sums v s inside far_off before =
    let g = graph_of n given in
    let hv : v < n = rw s.found.count at inside in
    fault_is n given s.some s.few s.many ∙ rw s.sound (split_at g sums v s.found s.some s.few hv far_off before)

pub split_is : (n : ℕ) (given : List (ℕ × ℕ)) (sums : List ℕ) (v : ℕ) → IsSearched n given sums → v < length sums → slice_index sums v ≡ far_level → ((u : ℕ) → u < v → slice_index sums u ≢ far_level)
    → IsSplitAt (graph_of n given) v
split_is n given sums v s inside far_off before = is_split (graph_of n given) sums v s.found s.some s.few (rw s.found.count at inside) far_off before

-- no edge splits a graph
no_edge_splits : (x y z : Bool) (i v : ℕ) → (if x then Some (Node i) else if y then Some (Loop i) else if z then Some (Double i) else None) ≡ Some (Split v) → ⊥
no_edge_splits true y z i v h = cc
no_edge_splits false true z i v h = cc
no_edge_splits false false true i v h = cc
no_edge_splits false false false i v h = cc

some_of : {X : Type 0} (x y : Option X) (z : X) → option_or x y ≡ Some z → (x ≡ Some z) ⊎ (y ≡ Some z)
some_of None y z h = inr h
some_of (Some x) y z h = inl h

pub no_edges_split : (n : ℕ) (before : List (ℕ × ℕ)) (i : ℕ) (es : List (ℕ × ℕ)) (v : ℕ) → edges_fault n before i es ≡ Some (Split v) → ⊥
unfolding edges_fault
no_edges_split n before i [] v h = cc
no_edges_split n before i (e ∷ es) v h = elim (some_of (edge_fault n before i e) (edges_fault n (before ++ e ∷ []) (i + 1) es) (Split v) h) [
  | inl here ↦ no_edge_splits (not (nat_lt e.0 n && nat_lt e.1 n)) (e.0 == e.1) (joined before e.0 e.1) i v here
  | inr later ↦ no_edges_split n (before ++ e ∷ []) (i + 1) es v later
]

pub none_found : (n : ℕ) (given : List (ℕ × ℕ)) (sums : List ℕ) → IsSearched n given sums → ((u : ℕ) → u < length sums → slice_index sums u ≢ far_level) → (fault_of n given ≡ None) × IsTopology (graph_of n given)
none_found n given sums s all =
    let g = graph_of n given in
    let each : (u : ℕ) → u < n → slice_index sums u ≢ far_level = λ u hu. all u (rw s.found.count hu) in
    (fault_is n given s.some s.few s.many ∙ rw s.sound (no_split g sums s.found s.some each), is_graph n given s.some s.few s.many (connected g sums s.found s.some each))
