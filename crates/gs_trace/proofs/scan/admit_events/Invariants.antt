use Rattle.std.proofs.Common.{◌≡◌, ◌≤◌, ◌-◌, length, drop}
use Rattle.gs_trace.specs.Formats.{fault_from}
use Rattle.gs_trace.specs.Worlds.{world_format}
use Rattle.gs_trace.proofs.scan.admit_events.Given as goal

abbrev pub invariant-loop-at : goal.invariant-loop-at
invariant-loop-at l = record {
  inside : l.at ≤ length l.bytes;
  same : fault_from (world_format l.nodes) l.at 0 (drop l.at l.bytes) ≡ fault_from (world_format l.nodes) l.from 0 (drop l.from l.bytes);
}

abbrev pub decreases-loop-at : goal.decreases-loop-at
decreases-loop-at l = length l.bytes - l.at
