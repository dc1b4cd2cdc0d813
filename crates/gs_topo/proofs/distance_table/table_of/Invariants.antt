use Rattle.std.proofs.Common.{◌≡◌, map}
use Rattle.std.specs.List.{flat_map, range_with_len}
use Rattle.gs_topo.specs.Graph.{Graph, neighbours_of}
use Rattle.gs_topo.specs.Walks.{IsTopology, distance_of}
use Rattle.gs_topo.proofs.distance_table.table_of.Given as goal

abbrev pub invariant-loop-source : goal.invariant-loop-source
invariant-loop-source l = (g : Graph) → l.lists ≡ map (neighbours_of g) (range_with_len 0 g.nodes) → IsTopology g
    → l.table.items ≡ flat_map (λ v. map (distance_of g v) (range_with_len 0 g.nodes)) (range_with_len 0 l.source)
