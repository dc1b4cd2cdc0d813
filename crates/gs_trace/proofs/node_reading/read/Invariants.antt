use Rattle.std.proofs.Common.{◌≡◌, ◌++◌, length}
use Rattle.gs_trace.proofs.node_reading.read.Given as goal

abbrev pub invariant-loop-event : goal.invariant-loop-event
invariant-loop-event l = l.events.items ++ l.scan ≡ l.initial.events.items ++ l.initial.scan

abbrev pub decreases-loop-event : goal.decreases-loop-event
decreases-loop-event l = length l.scan
