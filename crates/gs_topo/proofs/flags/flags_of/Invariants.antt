use Rattle.std.proofs.Common.{◌≡◌, [], take, drop}
use Rattle.gs_topo.specs.Faults.{edges_fault}
use Rattle.gs_topo.specs.Graph.{joined}
use Rattle.gs_topo.specs.inside.Kept.{HasFlags}
use Rattle.gs_topo.proofs.flags.flags_of.Given as goal

abbrev pub invariant-loop-i : goal.invariant-loop-i
invariant-loop-i l = record {
  flags : HasFlags l.n (joined (take l.i l.edges)) l.flags.items;
  rest : edges_fault l.n [] 0 l.edges ≡ edges_fault l.n (take l.i l.edges) l.i (drop l.i l.edges);
}
