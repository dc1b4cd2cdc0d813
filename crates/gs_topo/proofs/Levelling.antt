-- A search by levels, whose pending nodes are what is left of a queue.
use Rattle.std.proofs.Common.{◌≡◌, ℕ, zero, suc, ◌+◌, ◌<◌, ◌≤◌, arith, ap, refl, ◌∙◌, List, [], ◌∷◌, All, drop, length, map, slice_index, slice_index_or, get_or, filter}
use Rattle.std.specs.List.{range_with_len}
use Rattle.std.proofs.lemmas.List.{drop_more, get_or_read}
use Rattle.std.proofs.lemmas.List.Elements.{All-head, All-map}
use Rattle.std.proofs.lemmas.List.FromFn.{length-map-range_with_len, get_or-map-range_with_len}
use Rattle.gs_topo.specs.Graph.{Graph, adjacent, neighbours_of}
use Rattle.gs_topo.specs.inside.Search.{Trial, AreBelow, AreInside, AreSums, all_reached, far_level, steps_over}
use Rattle.gs_topo.specs.Walks.{one_each}
use Rattle.gs_topo.specs.declared.steps.Step.{Step}
use Rattle.gs_topo.proofs.Relaxing.{IsTried, all_behind, are_reached, rest_of}
use Rattle.gs_topo.proofs.Searching.{IsUnderWay, IsWithin, ends, goes_on, stays_within}

-- what is read of the tables at a place of the queue
pub record IsRead (lists : List (List ℕ)) (levels queue : List ℕ) (next node here : ℕ) (nodes : List ℕ) : Type 0 where
  pub within : IsWithin (length lists) far_level (record { sums = levels; pending = drop next queue })
  pub below : AreBelow lists
  pub inside : next < length queue
  pub node_read : node ≡ get_or queue next node
  pub here_read : here ≡ get_or levels node here
  pub nodes_read : nodes ≡ get_or lists node nodes

left_of : (n : ℕ) (levels queue : List ℕ) (next node : ℕ) → IsWithin n far_level (record { sums = levels; pending = drop next queue }) → next < length queue → node ≡ get_or queue next node
    → (drop next queue ≡ node ∷ drop (next + 1) queue) × (node < n)
left_of n levels queue next node within inside is =
    let read : node ≡ slice_index queue next = get_or_read queue next node inside is 0 in
    let left : drop next queue ≡ node ∷ drop (next + 1) queue = rw read (drop_more queue next 0 inside) in
    (left, All-head (λ x. x < n) node (drop (next + 1) queue) (rw left at within.inside))

pub node_inside : (n : ℕ) (levels queue : List ℕ) (next node : ℕ) → IsWithin n far_level (record { sums = levels; pending = drop next queue }) → next < length queue → node ≡ get_or queue next node
    → (node < n) × (node < length levels)
node_inside n levels queue next node within inside is =
    let h = (left_of n levels queue next node within inside is).1 in (h, (let c = within.count in omega (arith, h, c)))

pub here_small : (n : ℕ) (levels : List ℕ) (pending : List ℕ) (node here : ℕ) → IsWithin n far_level (record { sums = levels; pending = pending }) → node < n → here ≡ get_or levels node here
    → (here ≡ slice_index levels node) × (here ≤ 512)
here_small n levels pending node here within inside is =
    let small = within.small node in
    let read : here ≡ slice_index levels node = get_or_read levels node here (let c = within.count in omega (arith, inside, c)) is 0 in
    (read, omega (arith, small, read))

pub nodes_below : (lists : List (List ℕ)) (node : ℕ) (nodes : List ℕ) → AreBelow lists → node < length lists → nodes ≡ get_or lists node nodes
    → (nodes ≡ slice_index_or lists node []) × All (λ x. x < length lists) nodes
nodes_below lists node nodes below inside is =
    let read : nodes ≡ slice_index_or lists node [] = get_or_read lists node nodes inside is [] in
    (read, rw read (below node [] inside))

-- a trial of all neighbours of a node
new_tried : (here next : ℕ) (nodes levels queue : List ℕ) (new : Trial) → next < length queue → All (λ x. x < length levels) nodes
    → new ≡ all_reached (here + 1) (record { sums = levels; pending = queue }) nodes
    → IsTried here (steps_over (λ _. 1) nodes) (record { sums = levels; pending = drop (next + 1) queue }) (rest_of (next + 1) new)
new_tried here next nodes levels queue new inside below is =
    let behind = all_behind (here + 1) (next + 1) nodes (record { sums = levels; pending = queue }) (omega (arith, inside)) in
    rw (is, behind) (are_reached here nodes (record { sums = levels; pending = drop (next + 1) queue }) below)

all_steps_inside : (n : ℕ) (nodes : List ℕ) → All (λ x. x < n) nodes → AreInside n (steps_over (λ _. 1) nodes)
all_steps_inside n nodes below = let f : ℕ → Step = λ x. record { to = x; length = 1 } in All-map (λ (s : Step). s.to < n) f nodes below

-- the neighbours that a list of a graph has
neighbours_at : (g : Graph) (lists : List (List ℕ)) (node : ℕ) → lists ≡ map (neighbours_of g) (range_with_len 0 g.nodes) → node < length lists
    → slice_index_or lists node [] ≡ filter (adjacent g node) (range_with_len 0 (length lists))
neighbours_at g lists node are inside =
    let count : length lists ≡ g.nodes = rw are (length-map-range_with_len (neighbours_of g) 0 g.nodes) in
    rw count (let h : node < g.nodes = rw count at inside in rw are (get_or-map-range_with_len (neighbours_of g) 0 g.nodes node node [] h (omega arith)))

-- What a trial of a node leaves, and that less is left to do.
pub record IsTurn (lists : List (List ℕ)) (levels queue : List ℕ) (next here node : ℕ) (new : Trial) : Type 0 where
  pub steps : List Step
  pub are : steps ≡ steps_over (λ _. 1) (slice_index_or lists node [])
  pub inside : AreInside (length lists) steps
  pub left : drop next queue ≡ node ∷ drop (next + 1) queue
  pub node_inside : node < length lists
  pub sum : here ≡ slice_index levels node
  pub tried : IsTried here steps (record { sums = levels; pending = drop (next + 1) queue }) (rest_of (next + 1) new)

pub turn_of : (lists : List (List ℕ)) (levels queue : List ℕ) (next node here : ℕ) (nodes : List ℕ) (new : Trial) → IsRead lists levels queue next node here nodes
    → new ≡ all_reached (here + 1) (record { sums = levels; pending = queue }) nodes → IsTurn lists levels queue next here node new
turn_of lists levels queue next node here nodes new r is =
    let at = left_of (length lists) levels queue next node r.within r.inside r.node_read in
    let read = nodes_below lists node nodes r.below at.1 r.nodes_read in
    record {
      steps = steps_over (λ _. 1) nodes;
      are = ap (steps_over (λ _. 1)) read.0;
      inside = all_steps_inside (length lists) nodes read.1;
      left = at.0;
      node_inside = at.1;
      sum = (here_small (length lists) levels (drop next queue) node here r.within at.1 r.here_read).0;
      tried = new_tried here next nodes levels queue new r.inside (rw r.within.count read.1) is;
    }

pub turn_within : (lists : List (List ℕ)) (levels queue : List ℕ) (next here node : ℕ) (new : Trial) → IsTurn lists levels queue next here node new
    → IsWithin (length lists) far_level (record { sums = levels; pending = drop next queue }) → IsWithin (length lists) far_level (rest_of (next + 1) new)
turn_within lists levels queue next here node new t w =
    stays_within (length lists) far_level here node t.steps levels (drop (next + 1) queue) (rest_of (next + 1) new) t.inside t.tried (rw t.left at w)

pub turn_goes_on : (g : Graph) (lists : List (List ℕ)) (source : ℕ) (levels queue : List ℕ) (next here node : ℕ) (new : Trial) → lists ≡ map (neighbours_of g) (range_with_len 0 g.nodes)
    → IsTurn lists levels queue next here node new → IsUnderWay (length lists) (adjacent g) one_each far_level source (record { sums = levels; pending = drop next queue })
    → IsUnderWay (length lists) (adjacent g) one_each far_level source (rest_of (next + 1) new)
turn_goes_on g lists source levels queue next here node new are t w =
    goes_on (length lists) (adjacent g) one_each far_level source node levels (drop (next + 1) queue) t.steps (rest_of (next + 1) new) t.node_inside
    (t.are ∙ ap (steps_over (λ _. 1)) (neighbours_at g lists node are t.node_inside)) (rw t.sum at t.tried) (rw t.left at w)

-- at the end of the queue
nothing_left : (xs : List ℕ) (i : ℕ) → length xs ≤ i → drop i xs ≡ []
nothing_left [] zero past = refl
nothing_left [] (suc i) past = refl
nothing_left (x ∷ xs) zero past = absurd (omega (arith, past))
nothing_left (x ∷ xs) (suc i) past = nothing_left xs i (omega (arith, past))

pub levels_are : (g : Graph) (lists : List (List ℕ)) (source : ℕ) (levels queue : List ℕ) (next : ℕ) → lists ≡ map (neighbours_of g) (range_with_len 0 g.nodes) → length queue ≤ next
    → IsWithin (length lists) far_level (record { sums = levels; pending = drop next queue })
    → IsUnderWay (length lists) (adjacent g) one_each far_level source (record { sums = levels; pending = drop next queue }) → AreSums g.nodes (adjacent g) one_each far_level source levels
levels_are g lists source levels queue next are past within under_way =
    let count : length lists ≡ g.nodes = rw are (length-map-range_with_len (neighbours_of g) 0 g.nodes) in
    let empty = nothing_left queue next past in
    rw count at (ends (length lists) (adjacent g) one_each far_level source levels (rw empty at within) (rw empty at under_way))
