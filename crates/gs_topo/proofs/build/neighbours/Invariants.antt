use Rattle.std.proofs.Common.{◌≡◌, filter}
use Rattle.std.specs.List.{range_with_len}
use Rattle.gs_topo.specs.inside.Kept.{flag_at}
use Rattle.gs_topo.proofs.build.neighbours.Given as goal

abbrev pub invariant-loop-w : goal.invariant-loop-w
invariant-loop-w l = l.nodes.items ≡ filter (flag_at l.flags l.n l.v) (range_with_len 0 l.w)
