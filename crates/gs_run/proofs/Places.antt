-- The places of the neighbours of a node.
use Rattle.std.proofs.Common.{◌≡◌, ℕ, ◌<◌, ◌≤◌, ◌+◌, length, arith, ◌∙◌}
use Rattle.std.specs.List.{range_with_len}
use Rattle.std.proofs.lemmas.List.{get_or_default}
use Rattle.std.proofs.lemmas.List.Elements.{All-filter, filter_passes}
use Rattle.gs_topo.proofs.Members.{Contains-filter, Contains-range, range_below}
use Rattle.gs_run.specs.Net.{Net, Adjacent, neighbours, neighbour}

-- each neighbour has a place
pub place_of_neighbour : (net : Net) (v x : ℕ) → x < net.nodes → Adjacent net v x
    → (i : ℕ) × (i < length (neighbours net v)) × (neighbour net v i ≡ x)
place_of_neighbour net v x hx next =
    let k = Contains-filter (net.adjacent v) (range_with_len 0 net.nodes) x next (Contains-range 0 net.nodes x (omega arith) (omega (arith, hx))) in
    (k.0, k.1, get_or_default (neighbours net v) k.0 0 x k.1 ∙ k.2)

-- at each place stands a node
pub neighbour_is_node : (net : Net) (v i : ℕ) → i < length (neighbours net v) → neighbour net v i < net.nodes
neighbour_is_node net v i hi =
    let below = All-filter (net.adjacent v) (λ x. (0 ≤ x) × (x < 0 + net.nodes)) (range_with_len 0 net.nodes) (range_below 0 net.nodes) i 0 hi in
    omega (arith, below)

-- which is a neighbour
pub neighbour_is_next : (net : Net) (v i : ℕ) → i < length (neighbours net v) → Adjacent net v (neighbour net v i)
neighbour_is_next net v i hi = filter_passes (net.adjacent v) (range_with_len 0 net.nodes) i 0 hi
