-- For private functions and proofs: how the fields of a node's scan are seen.
use Rattle.std.specs.Prelude.{◌≡◌, List, None}
use Rattle.gs_core.specs.declared.event.NodeEvent.{NodeEvent}
use Rattle.gs_trace.specs.Formats.{fault_from}
use Rattle.gs_trace.specs.Nodes.{node_events, node_format}
use Rattle.gs_trace.specs.declared.node_scan.NodeScan.TheInside.{Inside}

abbrev pub node_left : Inside → List NodeEvent
node_left a = node_events a.left.now

-- no event that is left is at fault
pub record IsNodeScan (a : Inside) : Type 0 where
  pub whole : fault_from node_format 0 0 a.left.now ≡ None
