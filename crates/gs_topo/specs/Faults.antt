-- What is wrong with a list of edges over some nodes: the first fault.
use Rattle.std.specs.Prelude.{ℕ, ◌+◌, ◌&&◌, ◌||◌, ◌==◌, not, nat_lt, if◌then◌else◌}
use Rattle.std.specs.Prelude.{List, [], ◌∷◌, ◌++◌, length, Option, Some, None, option_map}
use Rattle.std.specs.List.{find, range_with_len}
use Rattle.std.specs.Option.{option_or}
use Rattle.gs_topo.specs.declared.fault.TopoFault.{TopoFault}
use Rattle.gs_topo.specs.declared.fault.TopoFault.TheVariants.{Count, Edges, Node, Loop, Double, Split}
use Rattle.gs_topo.specs.Graph.{Graph, graph_of, joined}
use Rattle.gs_topo.specs.Walks.{reaches}

-- what is wrong with the edge of number i, where `before` are the edges given before it
abbrev pub edge_fault : ℕ → List (ℕ × ℕ) → ℕ → ℕ × ℕ → Option TopoFault
edge_fault n before i e =
    if not (nat_lt e.0 n && nat_lt e.1 n) then Some (Node i)
    else if e.0 == e.1 then Some (Loop i)
    else if joined before e.0 e.1 then Some (Double i)
    else None

-- the first fault of the edges from number i on
unfoldable pub edges_fault : ℕ → List (ℕ × ℕ) → ℕ → List (ℕ × ℕ) → Option TopoFault
edges_fault n before i [] = None
edges_fault n before i (e ∷ es) = option_or (edge_fault n before i e) (edges_fault n (before ++ e ∷ []) (i + 1) es)

-- the least node that node 0 does not reach
unfoldable pub split_fault : Graph → Option TopoFault
split_fault g = option_map Split (find (λ v. not (reaches g 0 v)) (range_with_len 0 g.nodes))

-- the first fault of a list of edges over n nodes
abbrev pub fault_of : ℕ → List (ℕ × ℕ) → Option TopoFault
fault_of n given =
    if (n == 0) || nat_lt 512 n then Some Count
    else if nat_lt 4096 (length given) then Some Edges
    else option_or (edges_fault n [] 0 given) (split_fault (graph_of n given))
