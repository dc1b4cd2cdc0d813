use Rattle.gs_script.proofs.script.Script.loss_run.Goals as goal

pub returns : goal.returns
returns c = c.loss_at.ensures c.args.self.now.lines c.args.from c.args.to c.star.ensures.beacons c.node.ensures.sent c.node-2.ensures.received c.way-way.ensures.named
