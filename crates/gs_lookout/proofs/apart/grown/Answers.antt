use Rattle.std.proofs.Common.{arith}
use Rattle.gs_lookout.proofs.Growing.{skew_fits}
use Rattle.gs_lookout.proofs.apart.grown.Goals as goal

pub returns : goal.returns
returns c =
    let fits = skew_fits c.args.clocks.now c.type_inv.clocks in
    let bound = c.requires in
    let is = c.saturating_add.ensures in
    omega (arith, fits, bound, is)
