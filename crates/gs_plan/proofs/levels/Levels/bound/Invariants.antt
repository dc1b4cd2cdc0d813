use Rattle.std.proofs.Common.{◌≡◌, ◌+◌, ◌*◌, ◌<◌, ◌^◌}
use Rattle.gs_units.specs.Rates.{bound_at}
use Rattle.gs_plan.proofs.levels.Levels.bound.Given as goal

abbrev pub invariant-loop-level : goal.invariant-loop-level
invariant-loop-level l = (l.bound ≡ bound_at l.self.first l.self.sigma l.self.r l._level) × (l.bound < 2 ^ 62 + l._level * 2 ^ 30)
