use Rattle.std.proofs.Common.{◌++◌, ◌≤◌, take}
use Rattle.std.specs.List.{flat_map}
use Rattle.gs_io.specs.Held.{Appends}
use Rattle.gs_trace.specs.Nodes.{event_bytes}
use Rattle.gs_node_run.proofs.tracing.write_all.Given as goal

abbrev pub invariant-loop-event : goal.invariant-loop-event
invariant-loop-event g l = record {
  written : Appends (g.K.Sink.bytes l.fn.out) (g.K.Sink.bytes l.out) (l.head ++ flat_map event_bytes (take l.event-index l.events));
  faults : g.K.Sink.faults l.fn.out ≤ g.K.Sink.faults l.out;
}
