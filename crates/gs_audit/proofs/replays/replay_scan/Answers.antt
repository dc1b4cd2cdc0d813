use Rattle.std.proofs.lemmas.Result.{IfOk-weaker}
use Rattle.gs_audit.proofs.NodeSteps.{agrees}
use Rattle.gs_audit.proofs.replays.replay_scan.Goals as goal

pub returns-clause-one_node : goal.returns-clause-one_node
returns-clause-one_node c = IfOk-weaker c.replay_left.result _ _
    (λ v is. agrees c.args.params.now c.args.start.now c.args.scan v is) c.replay_left.ensures
