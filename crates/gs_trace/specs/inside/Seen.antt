-- For private functions and proofs: how the fields of a scan are seen.
use Rattle.std.specs.Prelude.{◌≡◌, None}
use Rattle.gs_trace.specs.Formats.{fault_from}
use Rattle.gs_trace.specs.Scans.{WorldLeft}
use Rattle.gs_trace.specs.Worlds.{world_events, world_format}
use Rattle.gs_trace.specs.declared.scan.WorldScan.TheInside.{Inside}

abbrev pub world_left : Inside → WorldLeft
world_left a = record { nodes = a.nodes; events = world_events a.nodes a.left.now }

-- no event that is left is at fault
pub record IsWorldScan (a : Inside) : Type 0 where
  pub whole : fault_from (world_format a.nodes) 0 0 a.left.now ≡ None
