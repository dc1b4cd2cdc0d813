use Rattle.gs_level.proofs.Weights.{none_beyond}
use Rattle.gs_level.proofs.potentials.potential.Goals as goal

pub returns-then-from-least : goal.returns-then-from-least
returns-then-from-least c =
    let small = rw (c.from-3.ensures, c.global_skew.ensures, c.from.ensures, c.from-2.ensures) at c.if-from-least.true in
    none_beyond c.args.plan.now c.args.clocks.now c.args.s c.least_kappa.result c.requires c.least_kappa.ensures small
