use Rattle.std.proofs.Common.{ap}
use Rattle.gs_estimate.specs.declared.slots.Heard.{Heard}
use Rattle.gs_board.specs.Faults.{reading_of}
use Rattle.gs_board.specs.declared.told.Receipt.{Receipt}
use Rattle.gs_callers.proofs.Taking.{delivered_more}
use Rattle.gs_callers.proofs.receiver.deliver.Goals as goal

pub returns-clause-delivered : goal.returns-clause-delivered
returns-clause-delivered g c =
    let r = c.in_ok-deliver.field-0 in
    delivered_more c.args.seat.now c.deliver.new.seat r c.args.beacon.now (reading_of r.event) c.in_ok-deliver.ensures.told (ap (λ (z : Receipt Heard). z.event) c.in_ok-deliver.ensures.ok.receipt)
