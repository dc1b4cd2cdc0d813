use Rattle.std.proofs.Common.{rules}
use Rattle.gs_core.proofs.Admitting.{may_hear}
use Rattle.gs_core.proofs.node.Core.take_beacon.Goals as goal
use Rattle.gs_core.proofs.node.Core.take_beacon.Goals.{then-eq, else-eq}

pub invariant_of-self : goal.invariant_of-self
invariant_of-self c =
    let may = may_hear c.args.self.now c.args.beacon.now c.args.now c.args.place c.requires.place c.requires.no_fault in
    elim c.if-eq.branch [ then-eq w ↦ search rules | else-eq w ↦ search rules ]
