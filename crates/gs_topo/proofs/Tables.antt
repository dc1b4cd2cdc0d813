-- What a search finds is the distances, where walks lead everywhere.
use Rattle.std.proofs.Common.{◌≡◌, ℕ, zero, suc, ◌+◌, ◌*◌, max, fold, length-append, ◌<◌, ◌≤◌, arith, ap, ◌∙◌, List, [], ◌∷◌, length, map, Bool, slice_index, get_or, get_or-append-add}
use Rattle.std.specs.List.{flat_map, range_with_len}
use Rattle.std.proofs.lemmas.List.{get_or_append_left}
use Rattle.std.proofs.Math.Nat.{suc-mul}
use Rattle.std.proofs.lemmas.Nat.{mul-add-lt}
use Rattle.std.proofs.lemmas.List.FromFn.{fill_by_all, length-map-range_with_len, get_or-map-range_with_len}
use Rattle.gs_topo.specs.Graph.{Graph, adjacent, Adjacent, neighbours_of}
use Rattle.gs_topo.specs.Walks.{IsTopology, one_each, distance_of, distances_of, diameter_of}
use Rattle.gs_topo.specs.inside.Search.{AreLevels, AreSteps, AreSums, Searched, far_level, far_sum}
use Rattle.gs_topo.specs.declared.steps.Step.{Step}
use Rattle.gs_topo.proofs.Walks.{below_walks}
use Rattle.gs_topo.proofs.Distances.{is_least, is_below}

pub sums_of : (all : List (List Step)) (n source : ℕ) (adj : ℕ → ℕ → Bool) (k : ℕ → ℕ → ℕ) (sums : List ℕ) → AreSteps n adj k all → Searched all source sums → AreSums n adj k far_sum source sums
sums_of all n source adj k sums steps searched =
    let s : AreSteps n adj k all → AreSums n adj k far_sum source sums = rw steps.count at (searched adj k) in
    s steps

pub sum_is_distance : (g : Graph) (source w : ℕ) (sums : List ℕ) → IsTopology g → AreSums g.nodes (adjacent g) one_each far_level source sums → source < g.nodes → w < g.nodes
    → slice_index sums w ≡ distance_of g source w
sum_is_distance g source w sums is s hs hw =
    let least = is_least g is.connected source w hs hw in
    let walk = least.some in
    let most = below_walks (Adjacent g) g.nodes one_each (λ x. slice_index sums x) s.near source w walk.0 hs walk.1 in
    let below = is_below g is.connected source w hs hw in
    let found = s.known w hw (omega (arith, most, below, walk.2, s.start, is.few)) in
    let le = least.each found.0 found.1 in
    omega (arith, most, walk.2, s.start, le, found.2)

pub row_is : (g : Graph) (lists : List (List ℕ)) (source : ℕ) (levels : List ℕ) → IsTopology g → lists ≡ map (neighbours_of g) (range_with_len 0 g.nodes) → source < g.nodes
    → AreLevels lists source levels → levels ≡ map (distance_of g source) (range_with_len 0 g.nodes)
row_is g lists source levels is are hs found =
    let s = found g are in
    fill_by_all (distance_of g source) levels g.nodes 0 s.count (λ w hw. sum_is_distance g source w levels is s hs hw)

-- an entry of a table of rows of n
pub at_row : (f : ℕ → List ℕ) (n a m v w d : ℕ) → ((i : ℕ) → length (f i) ≡ n) → v < m → w < n → get_or (flat_map f (range_with_len a m)) (v * n + w) d ≡ get_or (f (a + v)) w d
at_row f n a zero v w d each hv hw = absurd (omega arith)
at_row f n a (suc m) zero w d each hv hw =
    let e : 0 * n + w ≡ w = omega arith in
    let z : a + 0 ≡ a = omega arith in
    rw (e, z) (get_or_append_left (f a) (flat_map f (range_with_len (a + 1) m)) d w (rw (each a) hw))
at_row f n a (suc m) (suc v) w d each hv hw =
    let e : suc v * n + w ≡ length (f a) + (v * n + w) = (let p : suc v * n ≡ v * n + n = suc-mul v n in omega (arith, p, each a)) in
    let z : a + suc v ≡ a + 1 + v = omega arith in
    rw (e, z) (get_or-append-add (f a) (flat_map f (range_with_len (a + 1) m)) (v * n + w) d ∙ at_row f n (a + 1) m v w d each (omega arith) hw)

pub distance_at : (g : Graph) (v w : ℕ) → v < g.nodes → w < g.nodes → slice_index (distances_of g) (v * g.nodes + w) ≡ distance_of g v w
distance_at g v w hv hw =
    at_row (λ i. map (distance_of g i) (range_with_len 0 g.nodes)) g.nodes 0 g.nodes v w 0 (λ i. length-map-range_with_len (distance_of g i) 0 g.nodes) hv hw
    ∙ (let e : 0 + v ≡ v = omega arith in rw e (get_or-map-range_with_len (distance_of g v) 0 g.nodes w w 0 hw (omega arith)))

pub length_at : (f : ℕ → List ℕ) (n a m : ℕ) → ((i : ℕ) → length (f i) ≡ n) → length (flat_map f (range_with_len a m)) ≡ m * n
length_at f n a zero each = omega arith
length_at f n a (suc m) each =
    let rest = length_at f n (a + 1) m each in
    let p : suc m * n ≡ m * n + n = suc-mul m n in
    let both = length-append (f a) (flat_map f (range_with_len (a + 1) m)) in
    omega (arith, rest, p, both, each a)

pub length_distances : (g : Graph) → length (distances_of g) ≡ g.nodes * g.nodes
length_distances g = length_at (λ i. map (distance_of g i) (range_with_len 0 g.nodes)) g.nodes 0 g.nodes (λ i. length-map-range_with_len (distance_of g i) 0 g.nodes)

-- the greatest of a list is one of them, or 0, and no other is greater
pub le_greatest : (xs : List ℕ) (start i : ℕ) → (start ≤ fold max start xs) × (i < length xs → slice_index xs i ≤ fold max start xs)
le_greatest [] start i = (omega arith, λ h. absurd (omega (arith, h)))
le_greatest (x ∷ xs) start zero = let r = le_greatest xs (max start x) 0 in (let a = r.0 in omega (arith, a), λ h. let a = r.0 in omega (arith, a))
le_greatest (x ∷ xs) start (suc i) = let r = le_greatest xs (max start x) i in (let a = r.0 in omega (arith, a), λ h. r.1 (omega (arith, h)))

pub at_most_diameter : (g : Graph) (v w : ℕ) → v < g.nodes → w < g.nodes → distance_of g v w ≤ diameter_of g
unfolding diameter_of
at_most_diameter g v w hv hw =
    let inside : v * g.nodes + w < length (distances_of g) = rw (length_distances g) (mul-add-lt v g.nodes w g.nodes hv hw) in
    let le = (le_greatest (distances_of g) 0 (v * g.nodes + w)).1 inside in
    rw (distance_at g v w hv hw) at le

pub diameter_is : (g : Graph) (table : List ℕ) → table ≡ distances_of g → fold max 0 table ≡ diameter_of g
unfolding diameter_of
diameter_is g table is = ap (fold max 0) is

-- the entry of two nodes
pub entry_is : (g : Graph) (table : List ℕ) (v w : ℕ) → table ≡ distances_of g → v < g.nodes → w < g.nodes → (v * g.nodes + w < length table) × (slice_index table (v * g.nodes + w) ≡ distance_of g v w)
entry_is g table v w is hv hw = rw is (rw (length_distances g) (mul-add-lt v g.nodes w g.nodes hv hw), distance_at g v w hv hw)

-- the list of a node
pub list_is : (g : Graph) (lists : List (List ℕ)) (v : ℕ) → lists ≡ map (neighbours_of g) (range_with_len 0 g.nodes) → v < g.nodes → (v < length lists) × ((d : List ℕ) → get_or lists v d ≡ neighbours_of g v)
list_is g lists v is hv = rw is (rw (length-map-range_with_len (neighbours_of g) 0 g.nodes) hv, λ d. get_or-map-range_with_len (neighbours_of g) 0 g.nodes v v d hv (omega arith))
