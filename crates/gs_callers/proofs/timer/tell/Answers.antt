use Rattle.gs_callers.specs.Sends.{sends_by}
use Rattle.gs_callers.proofs.Steps.{on_err, part_whole}
use Rattle.gs_callers.proofs.timer.tell.Goals as goal

pub returns-in-Ok-clause-cut : goal.returns-in-Ok-clause-cut
returns-in-Ok-clause-cut g c = on_err c.show.result _ (part_whole (sends_by c.args.links.now c.args.receipt.now.reply.beacon) _ _ c.in-Ok.ensures.ok)
