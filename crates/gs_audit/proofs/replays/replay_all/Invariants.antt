use Rattle.std.proofs.Common.{drop}
use Rattle.gs_audit.specs.inside.NodeRunning.{IsReplaying}
use Rattle.gs_audit.proofs.replays.replay_all.Given as goal

abbrev pub invariant-loop-event : goal.invariant-loop-event
invariant-loop-event l = IsReplaying l.fn.params l.fn.start l.events (drop l.event-index l.events) l.replaying
