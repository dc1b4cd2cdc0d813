use Rattle.std.proofs.Common.{◌≡◌}
use Rattle.gs_net.specs.Tales.{whole}
use Rattle.gs_callers.proofs.listening.ListeningTask.run.Given as goal

abbrev pub invariant-loop : goal.invariant-loop
invariant-loop g l = record {
  items : whole (g.I.Inlet.tale l.self.receiver.inlet) ≡ whole (g.I.Inlet.tale l.initial.self.receiver.inlet);
  params : l.self.receiver.params.now ≡ l.initial.self.receiver.params.now;
  neighbour : l.self.receiver.neighbour ≡ l.initial.self.receiver.neighbour;
}
