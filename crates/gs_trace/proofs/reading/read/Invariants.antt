use Rattle.std.proofs.Common.{◌≡◌, ◌++◌, length}
use Rattle.gs_trace.proofs.reading.read.Given as goal

abbrev pub invariant-loop-next : goal.invariant-loop-next
invariant-loop-next l = record {
  all : l.events.items ++ l.scan.events ≡ l.initial.events.items ++ l.initial.scan.events;
  nodes : l.scan.nodes ≡ l.initial.scan.nodes;
  places : length l.incs.items ≡ l.scan.nodes;
}

abbrev pub decreases-loop-next : goal.decreases-loop-next
decreases-loop-next l = length l.scan.events
