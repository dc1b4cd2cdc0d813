-- How a topology is kept: for its private functions alone.
use Rattle.std.specs.Prelude.{◌≡◌, ℕ, ◌*◌, ◌+◌, ◌<◌, Bool, false, List, length, map, slice_index_or}
use Rattle.std.specs.List.{range_with_len}
use Rattle.gs_topo.specs.Graph.{Graph, neighbours_of}
use Rattle.gs_topo.specs.Walks.{IsTopology, distances_of, diameter_of}
use Rattle.gs_topo.specs.declared.lists.Nodes.{Nodes}

-- the flag of v and w, in rows of n flags
abbrev pub flag_at : List Bool → ℕ → ℕ → ℕ → Bool
flag_at flags n v w = slice_index_or flags (v * n + w) false

-- the tables of a topology
pub record AreKept (g : Graph) (neighbours : List Nodes) (distances : List ℕ) (greatest : ℕ) : Type 0 where
  pub graph : IsTopology g
  pub lists : neighbours ≡ map (neighbours_of g) (range_with_len 0 g.nodes)
  pub table : distances ≡ distances_of g
  pub diameter : greatest ≡ diameter_of g

-- the flags are this test's, for each pair of n nodes
pub record HasFlags (n : ℕ) (test : ℕ → ℕ → Bool) (flags : List Bool) : Type 0 where
  pub count : length flags ≡ n * n
  pub each : (v w : ℕ) → v < n → w < n → flag_at flags n v w ≡ test v w

-- a table, row by row, of the distances of whatever graph these are the neighbours of, if walks lead everywhere in it
abbrev pub IsTableOf : List (List ℕ) → List ℕ → Type 0
IsTableOf lists table = (g : Graph) → lists ≡ map (neighbours_of g) (range_with_len 0 g.nodes) → IsTopology g → table ≡ distances_of g
