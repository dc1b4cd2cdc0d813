-- Lengths of edges, and weights of pairs of nodes that fit them.
use Rattle.std.specs.Prelude.{◌≡◌, ◌≢◌, ℕ, ◌+◌, ◌<◌, ◌≤◌, List, slice_index}
use Rattle.std.specs.Option.{option_map_or}
use Rattle.gs_topo.specs.Graph.{Graph, number_of}

-- a graph with a length for each edge, in the order of the edges
pub record Lengths : Type 0 where
  pub graph : Graph
  pub lengths : List ℕ

-- the length of the edge between v and w
abbrev pub length_between : Lengths → ℕ → ℕ → ℕ
length_between l v w = option_map_or (slice_index l.lengths) (number_of l.graph v w) 0

-- a weight of each pair of n nodes that fits the lengths k of the edges
pub record Weighs (n : ℕ) (adj : ℕ → ℕ → Type 0) (k weight : ℕ → ℕ → ℕ) : Type 0 where
  pub itself : (v : ℕ) → v < n → weight v v ≡ 0
  pub same : (v w : ℕ) → v < n → w < n → weight v w ≡ weight w v
  pub towards : (w u : ℕ) → w < n → u < n → w ≢ u → (x : ℕ) × (x < n) × adj u x × (weight w u ≡ k u x + weight w x)
  pub near : (w u y : ℕ) → w < n → u < n → y < n → adj u y → weight w y ≤ weight w u + k u y
