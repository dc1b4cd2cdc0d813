-- Graphs over the nodes 0, 1, .., and the lists of edges that they are given by.
use Rattle.std.specs.Prelude.{◌≡◌, ℕ, ◌+◌, ◌-◌, ◌<◌, ◌⊎◌, ◌&&◌, ◌||◌, ◌==◌, Bool, IsTrue}
use Rattle.std.specs.Prelude.{List, Option, filter, map, position}
use Rattle.std.specs.List.{flat_map, list_any, range_with_len}

-- an undirected graph: the nodes below a number, and the edges as pairs of nodes
pub record Graph : Type 0 where
  pub nodes : ℕ
  pub edges : List (ℕ × ℕ)

-- the pair is v and w, either way round
abbrev pub joins : ℕ × ℕ → ℕ → ℕ → Bool
joins e v w = ((e.0 == v) && (e.1 == w)) || ((e.0 == w) && (e.1 == v))

-- some of these pairs is v and w, either way round
abbrev pub joined : List (ℕ × ℕ) → ℕ → ℕ → Bool
joined pairs v w = list_any (λ e. joins e v w) pairs

-- an edge joins v and w
abbrev pub adjacent : Graph → ℕ → ℕ → Bool
adjacent g v w = joined g.edges v w

abbrev pub Adjacent : Graph → ℕ → ℕ → Type 0
Adjacent g v w = IsTrue (adjacent g v w)

-- the neighbours of a node, ascending
abbrev pub neighbours_of : Graph → ℕ → List ℕ
neighbours_of g v = filter (adjacent g v) (range_with_len 0 g.nodes)

-- the number of the edge between v and w: its place among the edges
abbrev pub number_of : Graph → ℕ → ℕ → Option ℕ
number_of g v w = position (λ e. joins e v w) g.edges

-- the pairs a < b of numbers below n, ascending
abbrev pub pairs_below : ℕ → List (ℕ × ℕ)
pairs_below n = flat_map (λ a. map (λ b. (a, b)) (range_with_len (a + 1) (n - (a + 1)))) (range_with_len 0 n)

-- the graph over n nodes with these edges, given in any order and either way round
abbrev pub graph_of : ℕ → List (ℕ × ℕ) → Graph
graph_of n given = record { nodes = n; edges = filter (λ e. joined given e.0 e.1) (pairs_below n) }

-- e stands before f in the ascending order of edges
abbrev pub IsBefore : ℕ × ℕ → ℕ × ℕ → Type 0
IsBefore e f = (e.0 < f.0) ⊎ ((e.0 ≡ f.0) × (e.1 < f.1))
