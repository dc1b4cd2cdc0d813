use Rattle.gs_tdma.proofs.Turning.{first_here, first_next}
use Rattle.gs_tdma.proofs.slot_plan.next_in.Goals as goal

pub returns-then-at-opens : goal.returns-then-at-opens
returns-then-at-opens c =
    let early = rw c.from.ensures at c.if-at-opens.true in
    rw c.from.ensures (first_here c.args.period c.args.slot c.args.guard c.args.colour c.args.clock c.requires.room c.requires.fits early)

pub returns-else-at-guard : goal.returns-else-at-guard
returns-else-at-guard c =
    let over = rw c.from-else-at-opens.ensures at c.if-at-guard.false in
    rw c.from.ensures (first_next c.args.period c.args.slot c.args.guard c.args.colour c.args.clock c.requires.room c.requires.fits over)
