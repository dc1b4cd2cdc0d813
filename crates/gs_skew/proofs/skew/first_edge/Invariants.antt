use Rattle.std.proofs.Common.{◌≡◌, ◌==◌, None, take}
use Rattle.std.specs.List.{find}
use Rattle.gs_skew.specs.Skews.{edge_skew}
use Rattle.gs_skew.proofs.skew.first_edge.Given as goal

abbrev pub invariant-loop-edge : goal.invariant-loop-edge
invariant-loop-edge l = find (λ e. edge_skew l.clocks e == l.skew) (take l.edge-index l.topo.edges) ≡ None
