use Rattle.std.proofs.Common.{◌≡◌}
use Rattle.gs_net.specs.Tales.{whole}
use Rattle.gs_respond.proofs.responding.RespondingTask.run.Given as goal

abbrev pub invariant-loop : goal.invariant-loop
invariant-loop g l = record {
  items : whole (g.D.Inlet.tale l.self.responder.door) ≡ whole (g.D.Inlet.tale l.initial.self.responder.door);
  node : l.self.responder.node ≡ l.initial.self.responder.node;
}
