use Rattle.std.proofs.Common.{length}
use Rattle.gs_audit.specs.inside.NodeRunning.{IsReplaying}
use Rattle.gs_audit.proofs.replays.replay_left.Given as goal

abbrev pub invariant-loop-event : goal.invariant-loop-event
invariant-loop-event l = IsReplaying l.fn.params l.fn.start l.initial.scan l.scan l.replaying

abbrev pub decreases-loop-event : goal.decreases-loop-event
decreases-loop-event l = length l.scan
