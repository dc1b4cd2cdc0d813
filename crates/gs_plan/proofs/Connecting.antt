-- The graph of a text without a fault is connected, as that of each topology.
use Rattle.std.proofs.Common.{◌≡◌, ℕ, zero, suc, ◌+◌, ◌<◌, ◌≤◌, ◌||◌, ◌==◌, ◌++◌, arith, refl, inl, inr, cond, if◌then◌else◌, not, nat_lt, Bool, true, false, List, [], length, Option, Some, None, is_some, option_map}
use Rattle.std.specs.List.{find, range_with_len}
use Rattle.std.specs.Option.{option_or}
use Rattle.std.proofs.lemmas.Bool.{cases_lt, eqb-false, ltb-false}
use Rattle.gs_units.proofs.FirstFault.{none_of}
use Rattle.gs_topo.specs.declared.fault.TopoFault.TheVariants.{Count, Edges, Split}
use Rattle.gs_topo.specs.Faults.{edges_fault, fault_of, split_fault}
use Rattle.gs_topo.specs.Graph.{Graph, Adjacent, graph_of}
use Rattle.gs_topo.specs.Walks.{IsTopology, IsWalk, has_walk, one_each, reaches}
use Rattle.gs_topo.proofs.Distances.{IsConnected, both_ways, walk-from_has_walk}
use Rattle.gs_topo.proofs.Sound.{is_graph}
use Rattle.gs_topo.proofs.Walks.{turned, walk_append}
use Rattle.gs_plan.proofs.Accepting.{neither}

-- no number passes a test where none is found
fails_all : (test : ℕ → Bool) (from n : ℕ) → find test (range_with_len from n) ≡ None → (t : ℕ) → from ≤ t → t < from + n → test t ≡ false
fails_all test from zero h t low high = absurd (omega arith)
fails_all test from (suc n) h t low high = pick (test from) refl h (fails_all test (from + 1) n) where
  pick : (b : Bool) → test from ≡ b → cond b (Some from) (find test (range_with_len (from + 1) n)) ≡ None
      → (find test (range_with_len (from + 1) n) ≡ None → (s : ℕ) → from + 1 ≤ s → s < from + 1 + n → test s ≡ false) → test t ≡ false
  pick true is h rest = absurd (cc)
  pick false is h rest = elim (cases_lt from t) [
    | inl above ↦ rest h t (omega (arith, above)) (omega arith)
    | inr le ↦ let same : t ≡ from = omega (arith, le, low) in rw same is
  ]

-- some number passes where one is found
some_passes : (test : ℕ → Bool) (from n : ℕ) → is_some (find test (range_with_len from n)) ≡ true → (t : ℕ) × (test t ≡ true)
some_passes test from zero h = absurd (cc)
some_passes test from (suc n) h = pick (test from) refl h (some_passes test (from + 1) n) where
  pick : (b : Bool) → test from ≡ b → is_some (cond b (Some from) (find test (range_with_len (from + 1) n))) ≡ true
      → (is_some (find test (range_with_len (from + 1) n)) ≡ true → (t : ℕ) × (test t ≡ true)) → (t : ℕ) × (test t ≡ true)
  pick true is h rest = (from, is)
  pick false is h rest = rest h

-- a map of no value is no value
pub no_map : {X Y : Type 0} (f : X → Y) (o : Option X) → option_map f o ≡ None → o ≡ None
no_map f None h = refl
no_map f (Some x) h = cc

true_of : (b : Bool) → not b ≡ false → b ≡ true
true_of true h = refl
true_of false h = cc

-- node 0 reaches each node of a graph that is not split
reached : (g : Graph) → split_fault g ≡ None → (v : ℕ) → v < g.nodes → (xs : List ℕ) × IsWalk (Adjacent g) g.nodes 0 xs v
unfolding reaches split_fault
reached g none v hv =
    let no_node = no_map Split (find (λ u. not (reaches g 0 u)) (range_with_len 0 g.nodes)) none in
    let yes : reaches g 0 v ≡ true = true_of (reaches g 0 v) (fails_all (λ u. not (reaches g 0 u)) 0 g.nodes no_node v (omega arith) (omega arith)) in
    let found = some_passes (λ d. has_walk g d 0 v) 0 g.nodes yes in
    let walk = walk-from_has_walk g found.0 0 v found.1 in
    (walk.0, walk.1)

-- so walks lead everywhere
together : (g : Graph) → 1 ≤ g.nodes → split_fault g ≡ None → IsConnected g
together g some none v w hv hw =
    let there = reached g none v hv in
    let back = turned (Adjacent g) g.nodes one_each (both_ways g) (λ a b. refl) 0 v there.0 some there.1 in
    let on = reached g none w hw in
    (back.0 ++ on.0, walk_append (Adjacent g) g.nodes v 0 w back.0 on.0 back.1 on.1)

-- a list of edges without a fault makes a graph
pub no_fault_is_graph : (n : ℕ) (given : List (ℕ × ℕ)) → fault_of n given ≡ None → IsTopology (graph_of n given)
no_fault_is_graph n given none = counts ((n == 0) || nat_lt 512 n) refl none where
  edges : (b : Bool) → nat_lt 4096 (length given) ≡ b → 1 ≤ n → n ≤ 512
      → cond b (Some Edges) (option_or (edges_fault n [] 0 given) (split_fault (graph_of n given))) ≡ None → IsTopology (graph_of n given)
  edges true is some few h = absurd (cc)
  edges false is some few h =
      let parts = none_of (edges_fault n [] 0 given) (split_fault (graph_of n given)) h in
      is_graph n given some few (ltb-false 4096 (length given) is) (together (graph_of n given) some parts.1)

  counts : (b : Bool) → ((n == 0) || nat_lt 512 n) ≡ b
      → cond b (Some Count) (if nat_lt 4096 (length given) then Some Edges else option_or (edges_fault n [] 0 given) (split_fault (graph_of n given))) ≡ None → IsTopology (graph_of n given)
  counts true is h = absurd (cc)
  counts false is h =
      let parts = neither (n == 0) (nat_lt 512 n) is in
      let some : 1 ≤ n = (let other = eqb-false n 0 parts.0 in omega (arith, other)) in
      edges (nat_lt 4096 (length given)) refl some (ltb-false 512 n parts.1) h
