use Rattle.std.proofs.Common.{◌≡◌, map}
use Rattle.std.specs.List.{range_with_len}
use Rattle.gs_topo.specs.Graph.{neighbours_of}
use Rattle.gs_topo.specs.inside.Search.{steps_over}
use Rattle.gs_topo.specs.Weights.{length_between}
use Rattle.gs_topo.proofs.weights.all_steps.Given as goal

abbrev pub invariant-loop-v : goal.invariant-loop-v
invariant-loop-v l = l.all.items ≡ map (λ v. steps_over (length_between (record { graph = l.topology; lengths = l.lengths }) v) (neighbours_of l.topology v)) (range_with_len 0 l.v)
