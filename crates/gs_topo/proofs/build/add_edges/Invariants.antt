use Rattle.std.proofs.Common.{◌≡◌, ◌+◌, ◌-◌, ◌++◌, filter, map}
use Rattle.std.specs.List.{range_with_len}
use Rattle.gs_topo.specs.inside.Kept.{flag_at}
use Rattle.gs_topo.proofs.build.add_edges.Given as goal

abbrev pub invariant-loop-b : goal.invariant-loop-b
invariant-loop-b l = l.edges.items ≡ l.initial.edges.items ++ filter (λ e. flag_at l.flags l.n e.0 e.1) (map (λ x. (l.a, x)) (range_with_len (l.a + 1) (l.b - (l.a + 1))))
