-- Walks, least sums over walks, and distances. No definition here speaks of a table or a search.
use Rattle.std.specs.Prelude.{◌≡◌, ℕ, zero, suc, ◌+◌, ◌<◌, ◌≤◌, ◌&&◌, ◌==◌, max, Bool}
use Rattle.std.specs.Prelude.{List, [], ◌∷◌, All, AllPairs, fold, length, map, is_some, unwrap_or}
use Rattle.std.specs.List.{find, flat_map, list_any, range_with_len}
use Rattle.gs_topo.specs.Graph.{Graph, adjacent, Adjacent, IsBefore}

-- a walk from v over these nodes to w
abbrev pub IsWalk : (ℕ → ℕ → Type 0) → ℕ → ℕ → List ℕ → ℕ → Type 0
IsWalk adj n v [] w = v ≡ w
IsWalk adj n v (x ∷ xs) w = adj v x × (x < n) × IsWalk adj n x xs w

-- the sum of the lengths of its steps
abbrev pub length_of : (ℕ → ℕ → ℕ) → ℕ → List ℕ → ℕ
length_of k v [] = 0
length_of k v (x ∷ xs) = k v x + length_of k x xs

-- d is the least sum over all walks from v to w
pub record IsLeast (adj : ℕ → ℕ → Type 0) (n : ℕ) (k : ℕ → ℕ → ℕ) (v w d : ℕ) : Type 0 where
  pub some : (xs : List ℕ) × IsWalk adj n v xs w × (length_of k v xs ≡ d)
  pub each : (xs : List ℕ) → IsWalk adj n v xs w → d ≤ length_of k v xs

-- every step counts as one
abbrev pub one_each : ℕ → ℕ → ℕ
one_each v w = 1

-- some walk of exactly d steps leads from v to w
unfoldable pub has_walk : Graph → ℕ → ℕ → ℕ → Bool
has_walk g zero v w = v == w
has_walk g (suc d) v w = list_any (λ x. adjacent g v x && has_walk g d x w) (range_with_len 0 g.nodes)

-- the least number of steps of a walk from v to w, which is below the number of nodes where there is one
unfoldable pub distance_of : Graph → ℕ → ℕ → ℕ
distance_of g v w = unwrap_or (find (λ d. has_walk g d v w) (range_with_len 0 g.nodes)) g.nodes

-- some walk of fewer steps than there are nodes leads from v to w
unfoldable pub reaches : Graph → ℕ → ℕ → Bool
reaches g v w = is_some (find (λ d. has_walk g d v w) (range_with_len 0 g.nodes))

-- walks lead from node 0 to each node below v, and none to v
pub record IsSplitAt (g : Graph) (v : ℕ) : Type 0 where
  pub node : v < g.nodes
  pub apart : (xs : List ℕ) → IsWalk (Adjacent g) g.nodes 0 xs v → ⊥
  pub first : (u : ℕ) → u < v → (xs : List ℕ) × IsWalk (Adjacent g) g.nodes 0 xs u

-- the distances of all pairs of nodes, row by row
abbrev pub distances_of : Graph → List ℕ
distances_of g = flat_map (λ v. map (distance_of g v) (range_with_len 0 g.nodes)) (range_with_len 0 g.nodes)

-- the greatest distance
unfoldable pub diameter_of : Graph → ℕ
diameter_of g = fold max 0 (distances_of g)

-- x is the least neighbour of v that is one step nearer to w
pub record IsCloser (g : Graph) (v w x : ℕ) : Type 0 where
  pub node : x < g.nodes
  pub neighbour : Adjacent g v x
  pub nearer : distance_of g x w + 1 ≡ distance_of g v w
  pub least : (u : ℕ) → u < g.nodes → Adjacent g v u → distance_of g u w + 1 ≡ distance_of g v w → x ≤ u

-- what every topology is
pub record IsTopology (g : Graph) : Type 0 where
  pub some : 1 ≤ g.nodes
  pub few : g.nodes ≤ 512
  pub few_edges : length g.edges ≤ 4096
  pub upright : All (λ e. e.0 < e.1) g.edges
  pub below : All (λ e. e.1 < g.nodes) g.edges
  pub ascending : AllPairs IsBefore g.edges
  pub connected : (v w : ℕ) → v < g.nodes → w < g.nodes → (xs : List ℕ) × IsWalk (Adjacent g) g.nodes v xs w
