-- The laws of least sums over walks, and of distances.
use Rattle.std.specs.Prelude.{◌≡◌, ℕ, ◌+◌, ◌<◌, ◌≤◌, Bool, IsTrue}
use Rattle.gs_topo.specs.Graph.{Graph}
use Rattle.gs_topo.specs.Walks.{IsLeast, IsTopology, distance_of}
use Rattle.gs_topo.specs.Weights.{Weighs}

-- steps go both ways at one length, and the weight of each pair is the least sum over its walks
pub record AreLeastSums (n : ℕ) (adj : ℕ → ℕ → Bool) (k weight : ℕ → ℕ → ℕ) : Type 0 where
  pub both_ways : (v w : ℕ) → IsTrue (adj v w) → IsTrue (adj w v)
  pub same_length : (v w : ℕ) → k v w ≡ k w v
  pub least : (v w : ℕ) → v < n → w < n → IsLeast (λ a b. IsTrue (adj a b)) n k v w (weight v w)

-- least sums over walks are weights
abbrev pub LeastSumsWeigh : Type 0
LeastSumsWeigh = (n : ℕ) (adj : ℕ → ℕ → Bool) (k weight : ℕ → ℕ → ℕ) → AreLeastSums n adj k weight
    → Weighs n (λ a b. IsTrue (adj a b)) k weight

-- the distances of a topology are the same both ways, and no detour is shorter
pub record AreMetric (g : Graph) : Type 0 where
  pub itself : (v : ℕ) → v < g.nodes → distance_of g v v ≡ 0
  pub same : (v w : ℕ) → v < g.nodes → w < g.nodes → distance_of g v w ≡ distance_of g w v
  pub triangle : (v x w : ℕ) → v < g.nodes → x < g.nodes → w < g.nodes
      → distance_of g v w ≤ distance_of g v x + distance_of g x w
  pub small : (v w : ℕ) → v < g.nodes → w < g.nodes → distance_of g v w < g.nodes

abbrev pub DistancesAreMetric : Type 0
DistancesAreMetric = (g : Graph) → IsTopology g → AreMetric g
