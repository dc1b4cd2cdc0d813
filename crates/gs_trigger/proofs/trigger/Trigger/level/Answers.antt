use Rattle.std.proofs.Common.{◌≡◌, ◌*◌, max}
use Rattle.std.specs.Int.{div_ceil}
use Rattle.gs_trigger.proofs.Distances.{whole_of, level-covers, level-least}
use Rattle.gs_trigger.proofs.trigger.Trigger.level.Goals as goal
use Rattle.gs_trigger.proofs.trigger.Trigger.level.Goals.{in-Fast, in-Slow}

-- the code's whole
whole-is : (c : goal.After-max) → c.match-self.whole ≡ whole_of c.args.self c.args.kappa c.args.lag
whole-is c = elim c.match-self.branch [
  | in-Fast w ↦ rw (w.whole-is, c.from-kappa.ensures, w.in-Fast.is)
  | in-Slow w ↦ rw (w.whole-is, w.in-Slow.is)
]

-- the code's level
level-is : (c : goal.After-max) → c.max.result ≡ max (div_ceil (whole_of c.args.self c.args.kappa c.args.lag) (2 * c.args.kappa)) 1
level-is c = rw (c.max.ensures, c.div_ceil.ensures, whole-is c, c.from-kappa.ensures)

pub returns-clause-covers : goal.returns-clause-covers
returns-clause-covers c s h = level-covers c.args.self c.args.kappa c.args.lag s c.requires.kappa (rw (level-is c) at h)

pub returns-clause-least : goal.returns-clause-least
returns-clause-least c s one h = rw (level-is c) (level-least c.args.self c.args.kappa c.args.lag s c.requires.kappa one h)
