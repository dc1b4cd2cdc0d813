-- The trace of a node: bytes without a fault are the trace of the start and the events that are read, and of no others.
use Rattle.std.proofs.Common.{◌≡◌, ℕ, ◌^◌, ◌<◌, List, drop, None}
use Rattle.gs_units.proofs.FirstFault.{none_of}
use Rattle.gs_beacon.specs.Numbers.{AreBytes}
use Rattle.gs_core.specs.declared.event.NodeEvent.{NodeEvent}
use Rattle.gs_trace.specs.Formats.{fault_from}
use Rattle.gs_trace.specs.Laws.{FaultlessIsNode, NodeIsReadBack, node_events_in}
use Rattle.gs_trace.specs.Nodes.{event_bytes, Fits, head_fault, SpellsNode, start_at, node_fault, node_format}
use Rattle.gs_trace.specs.Starts.{FitsNode}
use Rattle.gs_trace.specs.declared.start.NodeStart.{NodeStart}
use Rattle.gs_trace.proofs.Answered.{IsOne}
use Rattle.gs_trace.proofs.NodeEvents.{node_is_format}
use Rattle.gs_trace.proofs.NodeHeads.{node_head, node_is_head}
use Rattle.gs_trace.proofs.Traces.{faultless, read_back}

-- what has no fault is spelled so
pub node-spelled : (cluster node : ℕ) (bytes : List ℕ) → AreBytes bytes → cluster < 2 ^ 32 → node < 2 ^ 32 → head_fault cluster node bytes ≡ None
    → fault_from node_format 32 0 (drop 32 bytes) ≡ None
    → SpellsNode cluster node (start_at bytes) (node_events_in bytes) bytes
node-spelled cluster node bytes are small few head events =
    let t = faultless (node_head cluster node) FitsNode node_format event_bytes Fits (node_is_head cluster node small few) node_is_format bytes are head events in
    record { start = t.start; events = t.events; is = t.is }

pub faultless-is_node : FaultlessIsNode
faultless-is_node cluster node bytes are small few none =
    let head = none_of (head_fault cluster node bytes) _ none in
    let events = none_of (fault_from node_format 32 0 (drop 32 bytes)) _ head.1 in
    node-spelled cluster node bytes are small few head.0 events.0

-- what is spelled has no fault, and is read
pub node-is_read_back : NodeIsReadBack
node-is_read_back cluster node s es bytes small few h =
    let r = read_back (node_head cluster node) FitsNode node_format event_bytes Fits (node_is_head cluster node small few) node_is_format
    s es bytes (record { start = h.start; events = h.events; is = h.is }) in
    record { no_fault = r.no_fault; start = r.start; events = r.events }

-- so bytes spell one start and one list of events
pub one_node : (cluster node : ℕ) (bytes : List ℕ) → cluster < 2 ^ 32 → node < 2 ^ 32
    → IsOne (λ (s : NodeStart) (es : List NodeEvent). SpellsNode cluster node s es bytes) (node_fault cluster node bytes)
one_node cluster node bytes small few = record {
  start = start_at bytes;
  events = node_events_in bytes;
  start_is = λ s es h. (node-is_read_back cluster node s es bytes small few h).start;
  events_are = λ s es h. (node-is_read_back cluster node s es bytes small few h).events;
  no_fault = λ s es h. (node-is_read_back cluster node s es bytes small few h).no_fault;
}
