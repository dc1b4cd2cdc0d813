-- Neighbours, and steps towards a node.
use Rattle.std.proofs.Common.{◌≡◌, ◌≢◌, ℕ, zero, suc, ◌+◌, ◌<◌, ◌≤◌, ◌==◌, inl, inr, arith, sym, refl, ◌∙◌, List, [], ◌∷◌, length, filter, cond, Bool, true, false, All, Some, None, get_or, slice_index}
use Rattle.std.specs.List.{range_with_len, position}
use Rattle.std.proofs.lemmas.Bool.{cases_eq, cases_lt, eq-eqb, ne_eqb, lt-ltb, le-ltb}
use Rattle.std.proofs.lemmas.List.Elements.{All-filter, All-contains, All-weaker, filter_passes}
use Rattle.std.proofs.lemmas.List.{get_or_default}
use Rattle.std.proofs.lemmas.List.Sums.{position_or_len_is}
use Rattle.gs_topo.specs.Graph.{Graph, Adjacent, adjacent, neighbours_of, joins}
use Rattle.gs_topo.specs.Laws.{AreLeastSums}
use Rattle.gs_topo.specs.Walks.{IsCloser, IsTopology, IsWalk, length_of, distance_of, one_each}
use Rattle.gs_topo.proofs.Members.{Contains-filter, Contains-range, member-from_list_any, range_below}
use Rattle.gs_topo.proofs.Ascending.{joins-cases}
use Rattle.gs_topo.proofs.Distances.{is_least, both_ways}
use Rattle.gs_topo.proofs.Weighing.{least_sums_weigh}

-- no node is its own neighbour
no_own : (g : Graph) → IsTopology g → (v : ℕ) → Adjacent g v v → ⊥
no_own g is v next =
    let m = member-from_list_any (λ e. joins e v v) g.edges next in
    let upright = All-contains (λ e. e.0 < e.1) g.edges m.0 is.upright m.1 in
    elim (joins-cases m.0 v v m.2) [ inl there ↦ omega (arith, there, upright) | inr back ↦ omega (arith, back, upright) ]

-- a walk of one step is an edge
walk_of_one : (g : Graph) (v w : ℕ) (xs : List ℕ) → IsWalk (Adjacent g) g.nodes v xs w → length_of one_each v xs ≡ 1 → Adjacent g v w
walk_of_one g v w [] walk long = absurd (omega (arith, long))
walk_of_one g v w (x ∷ []) walk long = rw (sym walk.2) walk.0
walk_of_one g v w (x ∷ y ∷ xs) walk long = absurd (omega (arith, long))

walk_of_none : (g : Graph) (v w : ℕ) (xs : List ℕ) → IsWalk (Adjacent g) g.nodes v xs w → length_of one_each v xs ≡ 0 → v ≡ w
walk_of_none g v w [] walk none = walk
walk_of_none g v w (x ∷ xs) walk none = absurd (omega (arith, none))

one_at : (g : Graph) → IsTopology g → (v w : ℕ) → v < g.nodes → w < g.nodes → (b : Bool) → adjacent g v w ≡ b → (distance_of g v w == 1) ≡ b
one_at g is v w hv hw true next =
    let least = is_least g is.connected v w hv hw in
    let le = least.each (w ∷ []) (next, hw, refl) in
    let walk = least.some in
    let one : distance_of g v w ≡ 1 = elim (cases_eq (distance_of g v w) 0) [
      | inl none ↦
          let same : v ≡ w = walk_of_none g v w walk.0 walk.1 (walk.2 ∙ none) in
          absurd (no_own g is w (rw same at next))
      | inr some ↦ omega (arith, le, some)
    ] in
    eq-eqb (distance_of g v w) 1 one
one_at g is v w hv hw false apart = ne_eqb (distance_of g v w) 1 (λ one.
    let walk = (is_least g is.connected v w hv hw).some in
    let next : adjacent g v w ≡ true = walk_of_one g v w walk.0 walk.1 (walk.2 ∙ one) in
    let clash : true ≡ false = sym next ∙ apart in cc)

-- The neighbours are the nodes at distance 1.
pub distance_one : (g : Graph) → IsTopology g → (v w : ℕ) → v < g.nodes → w < g.nodes → (distance_of g v w == 1) ≡ adjacent g v w
distance_one g is v w hv hw = one_at g is v w hv hw (adjacent g v w) refl

-- some neighbour of v is one step nearer to w
pub some_nearer : (g : Graph) → IsTopology g → (v w : ℕ) → v < g.nodes → w < g.nodes → v ≢ w → (x : ℕ) × (x < g.nodes) × Adjacent g v x × (distance_of g x w + 1 ≡ distance_of g v w)
some_nearer g is v w hv hw other =
    let sums : AreLeastSums g.nodes (adjacent g) one_each (distance_of g) = record { both_ways = both_ways g; same_length = λ a b. refl; least = is_least g is.connected } in
    let weighs = least_sums_weigh g.nodes (adjacent g) one_each (distance_of g) sums in
    let x = weighs.towards w v hw hv (λ e. other (sym e)) in
    let a = weighs.same v w hv hw in
    let b = weighs.same x.0 w x.1 hw in
    (x.0, x.1, x.2, omega (arith, x.3, a, b))

-- each number is below those after it
Rises : List ℕ → Type 0
Rises [] = Unit {0}
Rises (x ∷ xs) = All (λ y. x < y) xs × Rises xs

Rises-range : (a n : ℕ) → Rises (range_with_len a n)
unfolding Rises
Rises-range a zero = tt
Rises-range a (suc n) = (All-weaker (λ x. (a + 1 ≤ x) × (x < a + 1 + n)) (λ y. a < y) (λ y h. omega (arith, h)) (range_with_len (a + 1) n) (range_below (a + 1) n), Rises-range (a + 1) n)

Rises-filter : (p : ℕ → Bool) (xs : List ℕ) → Rises xs → Rises (filter p xs)
unfolding Rises
Rises-filter p [] r = tt
Rises-filter p (x ∷ xs) r = at (p x) (All-filter p (λ y. x < y) xs r.0) (Rises-filter p xs r.1)
  where
    at : (b : Bool) → All (λ y. x < y) (filter p xs) → Rises (filter p xs) → Rises (cond b (x ∷ filter p xs) (filter p xs))
    at true first rest = (first, rest)
    at false first rest = rest

rising : (xs : List ℕ) → Rises xs → (i j : ℕ) → i < j → j < length xs → slice_index xs i < slice_index xs j
unfolding Rises
rising [] r i j less inside = absurd (omega (arith, inside))
rising (x ∷ xs) r zero zero less inside = absurd (omega arith)
rising (x ∷ xs) r zero (suc j) less inside = r.0 j 0 (omega (arith, inside))
rising (x ∷ xs) r (suc i) zero less inside = absurd (omega arith)
rising (x ∷ xs) r (suc i) (suc j) less inside = rising xs r.1 i j (omega arith) (omega (arith, inside))

-- each neighbour is a node
pub neighbour_inside : (g : Graph) (v i : ℕ) (d : ℕ) → i < length (neighbours_of g v) → (get_or (neighbours_of g v) i d < g.nodes) × Adjacent g v (get_or (neighbours_of g v) i d)
neighbour_inside g v i d h =
    let below = All-filter (adjacent g v) (λ x. (0 ≤ x) × (x < 0 + g.nodes)) (range_with_len 0 g.nodes) (range_below 0 g.nodes) i d h in
    (omega (arith, below), filter_passes (adjacent g v) (range_with_len 0 g.nodes) i d h)

-- the neighbours before place i are not nearer
abbrev pub NoneBefore : Graph → ℕ → ℕ → ℕ → Type 0
NoneBefore g v w i = (j : ℕ) → j < i → distance_of g (slice_index (neighbours_of g v) j) w + 1 ≢ distance_of g v w

place_of : (g : Graph) (v u : ℕ) → u < g.nodes → Adjacent g v u → (j : ℕ) × (j < length (neighbours_of g v)) × (slice_index (neighbours_of g v) j ≡ u)
place_of g v u hu next =
    let m = Contains-filter (adjacent g v) (range_with_len 0 g.nodes) u next (Contains-range 0 g.nodes u (omega arith) (omega arith)) in
    (m.0, m.1, get_or_default (neighbours_of g v) m.0 0 u m.1 ∙ m.2)

pub found_closer : (g : Graph) (v w i : ℕ) → i < length (neighbours_of g v) → NoneBefore g v w i
    → distance_of g (slice_index (neighbours_of g v) i) w + 1 ≡ distance_of g v w → IsCloser g v w (slice_index (neighbours_of g v) i)
found_closer g v w i inside before nearer =
    let here = neighbour_inside g v i 0 inside in
    record {
      node = here.0;
      neighbour = here.1;
      nearer = nearer;
      least = λ u hu next near.
          let p = place_of g v u hu next in
          let j : ℕ = p.0 in
          let is : slice_index (neighbours_of g v) j ≡ u = p.2 in
          rw (← is) (elim (cases_lt j i) [
            | inl earlier ↦ absurd (before j earlier (rw is near))
            | inr later ↦ elim (cases_eq i j) [
              | inl same ↦ rw same (omega arith)
              | inr after ↦ let r = rising (neighbours_of g v) (Rises-filter (adjacent g v) (range_with_len 0 g.nodes) (Rises-range 0 g.nodes)) i j (omega (arith, later, after)) p.1 in omega (arith, r)
            ]
          ]);
    }

pub must_find : (g : Graph) → IsTopology g → (v w : ℕ) → v < g.nodes → w < g.nodes → v ≢ w → NoneBefore g v w (length (neighbours_of g v)) → ⊥
must_find g is v w hv hw other none =
    let x = some_nearer g is v w hv hw other in
    let p = place_of g v x.0 x.1 x.2 in
    none p.0 p.1 (rw p.2 x.3)

-- the first place that passes, and none
pub position_at : {X : Type 0} (p : X → Bool) (xs : List X) (i : ℕ) (d : X) → i < length xs → ((k : ℕ) → k < i → p (get_or xs k d) ≡ false) → p (get_or xs i d) ≡ true → position p xs ≡ Some i
position_at p xs i d inside before here =
    let first = position_or_len_is p xs i d (omega arith) before (λ h. here) in
    rw (first, lt-ltb i (length xs) inside) refl

pub position_nowhere : {X : Type 0} (p : X → Bool) (xs : List X) (d : X) → ((k : ℕ) → k < length xs → p (get_or xs k d) ≡ false) → position p xs ≡ None
position_nowhere p xs d none =
    let past = position_or_len_is p xs (length xs) d (omega arith) none (λ h. absurd (omega arith)) in
    rw (past, le-ltb (length xs) (length xs) (omega arith)) refl
