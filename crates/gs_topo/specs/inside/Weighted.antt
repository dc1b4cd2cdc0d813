-- How weights are kept: for their private functions alone.
use Rattle.std.specs.Prelude.{◌≡◌, ℕ, ◌+◌, ◌*◌, ◌<◌, All, List, length, slice_index}
use Rattle.gs_topo.specs.Graph.{Adjacent}
use Rattle.gs_topo.specs.Walks.{IsLeast}
use Rattle.gs_topo.specs.Weights.{Lengths, length_between}
use Rattle.gs_topo.specs.declared.weights.Table.{Table}
use Rattle.gs_topo.specs.declared.weights.Table.TheVariants.{Each, Even}

-- a table, row by row, of the weights of the first nodes to all
pub record AreRows (l : Lengths) (first : ℕ) (table : List ℕ) : Type 0 where
  pub count : length table ≡ first * l.graph.nodes
  pub least : (v w : ℕ) → v < first → w < l.graph.nodes
      → IsLeast (Adjacent l.graph) l.graph.nodes (length_between l) v w (slice_index table (v * l.graph.nodes + w))

-- one length of all edges, whose weights are by distances; or the weights of all nodes to all
abbrev pub AreWeights : Lengths → Table → Type 0
AreWeights l (Even common) = (length l.lengths ≡ length l.graph.edges) × All (λ x. x ≡ common) l.lengths
AreWeights l (Each sums) = AreRows l l.graph.nodes sums.items
