use Rattle.std.proofs.Common.{◌≡◌, ◌+◌, ◌-◌, filter, map}
use Rattle.std.specs.List.{flat_map, range_with_len}
use Rattle.gs_topo.specs.inside.Kept.{flag_at}
use Rattle.gs_topo.proofs.build.edge_list.Given as goal

abbrev pub invariant-loop-a : goal.invariant-loop-a
invariant-loop-a l = l.edges.items ≡ filter (λ e. flag_at l.flags l.n e.0 e.1) (flat_map (λ a. map (λ b. (a, b)) (range_with_len (a + 1) (l.n - (a + 1)))) (range_with_len 0 l.a))
