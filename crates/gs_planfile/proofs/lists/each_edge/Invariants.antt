use Rattle.std.proofs.Common.{◌≡◌, drop, map}
use Rattle.toml.specs.View.{view}
use Rattle.gs_planfile.specs.Lists.{each, edge_of}
use Rattle.gs_planfile.proofs.Views.{after}
use Rattle.gs_planfile.proofs.lists.each_edge.Given as goal

abbrev pub invariant-loop-item : goal.invariant-loop-item
invariant-loop-item l = each edge_of (map view l.items) ≡ after l.edges.items (each edge_of (map view (drop l.item-index l.items)))
