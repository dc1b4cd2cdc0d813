use Rattle.std.proofs.Common.{◌≡◌, ◌+◌, ◌*◌}
use Rattle.gs_plan.specs.Levels.{best_of}
use Rattle.gs_units.specs.Rates.{bound_at}
use Rattle.gs_plan.proofs.levels.Levels.best.Given as goal

abbrev pub invariant-loop-below : goal.invariant-loop-below
invariant-loop-below l = l.best ≡ best_of (λ s. 2 * s * l.kappa + bound_at l.self.first l.self.sigma l.self.r s) l.below
