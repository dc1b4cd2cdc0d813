use Rattle.std.proofs.Common.{◌≡◌, map, take}
use Rattle.std.specs.List.{AllByRecursion}
use Rattle.toml.specs.View.{view}
use Rattle.gs_planfile.specs.Writing.{EdgeFits, edge_data}
use Rattle.gs_planfile.proofs.write.put_edges.Given as goal

abbrev pub invariant-loop-edge : goal.invariant-loop-edge
invariant-loop-edge l = record {
  seen : map view l.items.items ≡ map edge_data (take l.edge-index l.edges);
  fit : AllByRecursion EdgeFits (take l.edge-index l.edges);
}
