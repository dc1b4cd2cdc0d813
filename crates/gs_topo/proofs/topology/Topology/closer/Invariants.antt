use Rattle.gs_topo.proofs.Nearer.{NoneBefore}
use Rattle.gs_topo.proofs.topology.Topology.closer.Given as goal

abbrev pub invariant-loop-x : goal.invariant-loop-x
invariant-loop-x l = NoneBefore l.self l.v l.w l.x-index
