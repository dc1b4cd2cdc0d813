use Rattle.std.proofs.Common.{◌≡◌, map, take}
use Rattle.gs_plan.proofs.numbers.kappas.Given as goal

abbrev pub invariant-loop-edge : goal.invariant-loop-edge
invariant-loop-edge l = l.kappas.items ≡ map (λ n. n.kappa) (take l.edge-index l.edges)
