-- How the searches for levels and for least sums work: for their private functions alone.
use Rattle.std.specs.Prelude.{◌≡◌, ℕ, ◌+◌, ◌<◌, ◌≤◌, ◌^◌, ◌==◌, nat_lt, Bool, IsTrue, if◌then◌else◌, All, fold}
use Rattle.std.specs.Prelude.{List, [], ◌∷◌, ◌++◌, filter, length, map, slice_index, slice_index_or, slice_set}
use Rattle.std.specs.List.{range_with_len}
use Rattle.gs_topo.specs.declared.steps.Step.{Step}
use Rattle.gs_topo.specs.Graph.{Graph, adjacent, neighbours_of}
use Rattle.gs_topo.specs.Walks.{IsWalk, length_of, one_each}

-- a level that no node has which is reached
abbrev pub far_level : ℕ
far_level = 512

-- a sum that no walk of a search has
abbrev pub far_sum : ℕ
far_sum = 2 ^ 96

-- the sums known so far, and the nodes whose steps are still to be tried
pub record Trial : Type 0 where
  pub sums : List ℕ
  pub pending : List ℕ

-- reaches a node at this level, where that is less than the one it had
abbrev pub reached : ℕ → Trial → ℕ → Trial
reached level t x =
    if nat_lt level (slice_index t.sums x)
    then record { sums = slice_set t.sums x level; pending = t.pending ++ x ∷ [] }
    else t

-- reaches these nodes in order
abbrev pub all_reached : ℕ → Trial → List ℕ → Trial
all_reached level t nodes = fold (reached level) t nodes

-- tries a step from a node of this sum: where it makes a sum less, that is the new one; a node that had none is pending
abbrev pub tried : ℕ → Trial → Step → Trial
tried here t s =
    if nat_lt (here + s.length) (slice_index t.sums s.to)
    then record {
      sums = slice_set t.sums s.to (here + s.length);
      pending = if slice_index t.sums s.to == far_sum then t.pending ++ s.to ∷ [] else t.pending;
    }
    else t

-- tries these steps in order
abbrev pub all_tried : ℕ → Trial → List Step → Trial
all_tried here t steps = fold (tried here) t steps

-- the steps to these nodes, at these lengths
abbrev pub steps_over : (ℕ → ℕ) → List ℕ → List Step
steps_over k nodes = map (λ x. record { to = x; length = k x }) nodes

-- the steps of each of n nodes
pub record AreSteps (n : ℕ) (adj : ℕ → ℕ → Bool) (k : ℕ → ℕ → ℕ) (all : List (List Step)) : Type 0 where
  pub count : length all ≡ n
  pub each : (u : ℕ) → u < n → slice_index_or all u [] ≡ steps_over (k u) (filter (adj u) (range_with_len 0 n))

-- What the sums of a search from `source` are: each known one is that of a walk, and no step makes one shorter.
pub record AreSums (n : ℕ) (adj : ℕ → ℕ → Bool) (k : ℕ → ℕ → ℕ) (far source : ℕ) (sums : List ℕ) : Type 0 where
  pub count : length sums ≡ n
  pub start : slice_index sums source ≡ 0
  pub small : (w : ℕ) → slice_index sums w ≤ far
  pub known : (w : ℕ) → w < n → slice_index sums w < far
      → (xs : List ℕ) × IsWalk (λ a b. IsTrue (adj a b)) n source xs w × (length_of k source xs ≡ slice_index sums w)
  pub near : (u x : ℕ) → u < n → x < n → IsTrue (adj u x) → slice_index sums x ≤ slice_index sums u + k u x

-- the same for whatever steps these are
abbrev pub Searched : List (List Step) → ℕ → List ℕ → Type 0
Searched all source sums = (adj : ℕ → ℕ → Bool) (k : ℕ → ℕ → ℕ) → AreSteps (length all) adj k all
    → AreSums (length all) adj k far_sum source sums

-- the same with steps of length 1 for whatever graph these are the neighbours of
abbrev pub AreLevels : List (List ℕ) → ℕ → List ℕ → Type 0
AreLevels lists source levels = (g : Graph) → lists ≡ map (neighbours_of g) (range_with_len 0 g.nodes)
    → AreSums g.nodes (adjacent g) one_each far_level source levels

-- each step leads to one of n nodes
abbrev pub AreInside : ℕ → List Step → Type 0
AreInside n steps = All (λ s. s.to < n) steps

-- each of these lists is of nodes below their number
abbrev pub AreBelow : List (List ℕ) → Type 0
AreBelow lists = All (λ nodes. All (λ x. x < length lists) nodes) lists
