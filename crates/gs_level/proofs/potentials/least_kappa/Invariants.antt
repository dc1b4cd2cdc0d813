use Rattle.gs_level.proofs.Weights.{IsLow}
use Rattle.gs_level.proofs.potentials.least_kappa.Given as goal

abbrev pub invariant-loop-e : goal.invariant-loop-e
invariant-loop-e l = IsLow l.plan l.least l.e
