use Rattle.gs_tool.proofs.SettleTexts.{long_times}
use Rattle.gs_tool.proofs.settle.settled.Goals as goal

pub settled_text-requires-clause-times : goal.settled_text-requires-clause-times
settled_text-requires-clause-times c =
    long_times c.args.plan.now c.args.gamma c.in-Ok.settled.times.items c.in-Ok.ensures.times
