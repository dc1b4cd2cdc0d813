use Rattle.std.proofs.Common.{◌≡◌, filter, map}
use Rattle.std.specs.List.{range_with_len}
use Rattle.gs_topo.specs.inside.Kept.{flag_at}
use Rattle.gs_topo.proofs.build.neighbour_lists.Given as goal

abbrev pub invariant-loop-v : goal.invariant-loop-v
invariant-loop-v l = l.lists.items ≡ map (λ v. filter (flag_at l.flags l.n v) (range_with_len 0 l.n)) (range_with_len 0 l.v)
