use Rattle.std.proofs.Common.{◌≡◌, take}
use Rattle.gs_topo.specs.Graph.{neighbours_of}
use Rattle.gs_topo.specs.inside.Search.{steps_over}
use Rattle.gs_topo.specs.Weights.{length_between}
use Rattle.gs_topo.proofs.weights.steps_from.Given as goal

abbrev pub invariant-loop-to : goal.invariant-loop-to
invariant-loop-to l = l.steps.items ≡ steps_over (length_between (record { graph = l.topology; lengths = l.lengths }) l.v) (take l.to-index (neighbours_of l.topology l.v))
