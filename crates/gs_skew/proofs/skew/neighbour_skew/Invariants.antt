use Rattle.std.proofs.Common.{◌≡◌, take}
use Rattle.gs_skew.specs.Skews.{neighbour_skew}
use Rattle.gs_skew.proofs.skew.neighbour_skew.Given as goal

abbrev pub invariant-loop-edge : goal.invariant-loop-edge
invariant-loop-edge l = l.most ≡ neighbour_skew (take l.edge-index l.topo.edges) l.clocks
