-- What was written is read back, what has no fault was so written, and a fault is that of the first event at fault.
use Rattle.std.specs.Prelude.{◌≡◌, ◌↔◌, ℕ, ◌<◌, ◌^◌, List, drop, Some, None}
use Rattle.gs_beacon.specs.Numbers.{AreBytes}
use Rattle.gs_core.specs.declared.event.Event.{Event}
use Rattle.gs_core.specs.declared.event.NodeEvent.{NodeEvent}
use Rattle.gs_trace.specs.Firsts.{IsFirst}
use Rattle.gs_trace.specs.Formats.{fault_from}
use Rattle.gs_trace.specs.Nodes as node
use Rattle.gs_trace.specs.Worlds as world
use Rattle.gs_trace.specs.declared.fault.TraceFault.{TraceFault}
use Rattle.gs_trace.specs.declared.start.NodeStart.{NodeStart}
use Rattle.gs_trace.specs.declared.start.WorldStart.{WorldStart}

-- the events of a world's trace stand behind its head
abbrev pub events_in : ℕ → List ℕ → List Event
events_in nodes bytes = world.world_events nodes (drop (world.head_length nodes) bytes)

-- the bytes are read as this start and these events
pub record ReadsWorld (cluster nodes : ℕ) (s : WorldStart) (es : List Event) (bytes : List ℕ) : Type 0 where
  pub no_fault : world.world_fault cluster nodes bytes ≡ None
  pub start : world.start_at nodes bytes ≡ s
  pub events : events_in nodes bytes ≡ es

-- the trace of a world is read as the start and the events that it spells
abbrev pub WorldIsReadBack : Type 0
WorldIsReadBack = (cluster nodes : ℕ) (s : WorldStart) (es : List Event) (bytes : List ℕ)
    → cluster < 2 ^ 32 → nodes < 2 ^ 32 → world.SpellsWorld cluster nodes s es bytes → ReadsWorld cluster nodes s es bytes

-- and bytes without a fault are a trace
abbrev pub FaultlessIsWorld : Type 0
FaultlessIsWorld = (cluster nodes : ℕ) (bytes : List ℕ)
    → AreBytes bytes → cluster < 2 ^ 32 → nodes < 2 ^ 32 → world.world_fault cluster nodes bytes ≡ None
    → world.SpellsWorld cluster nodes (world.start_at nodes bytes) (events_in nodes bytes) bytes

-- the events of a node's trace stand behind its head
abbrev pub node_events_in : List ℕ → List NodeEvent
node_events_in bytes = node.node_events (drop 32 bytes)

-- the bytes are read as this start and these events
pub record ReadsNode (cluster v : ℕ) (s : NodeStart) (es : List NodeEvent) (bytes : List ℕ) : Type 0 where
  pub no_fault : node.node_fault cluster v bytes ≡ None
  pub start : node.start_at bytes ≡ s
  pub events : node_events_in bytes ≡ es

-- the trace of a node is read as the start and the events that it spells
abbrev pub NodeIsReadBack : Type 0
NodeIsReadBack = (cluster v : ℕ) (s : NodeStart) (es : List NodeEvent) (bytes : List ℕ)
    → cluster < 2 ^ 32 → v < 2 ^ 32 → node.SpellsNode cluster v s es bytes → ReadsNode cluster v s es bytes

-- and bytes without a fault are a trace
abbrev pub FaultlessIsNode : Type 0
FaultlessIsNode = (cluster v : ℕ) (bytes : List ℕ)
    → AreBytes bytes → cluster < 2 ^ 32 → v < 2 ^ 32 → node.node_fault cluster v bytes ≡ None
    → node.SpellsNode cluster v (node.start_at bytes) (node_events_in bytes) bytes

-- the fault of a world's events is that of the first at fault
abbrev pub WorldFaultIsFirst : Type 0
WorldFaultIsFirst = (nodes place : ℕ) (bytes : List ℕ) (fault : TraceFault) → AreBytes bytes
    → (fault_from (world.world_format nodes) place 0 bytes ≡ Some fault)
    ↔ IsFirst (world.world_format nodes) world.event_bytes (world.Fits nodes) place bytes fault

-- and so is that of a node's
abbrev pub NodeFaultIsFirst : Type 0
NodeFaultIsFirst = (place : ℕ) (bytes : List ℕ) (fault : TraceFault) → AreBytes bytes
    → (fault_from node.node_format place 0 bytes ≡ Some fault)
    ↔ IsFirst node.node_format node.event_bytes node.Fits place bytes fault
