use Rattle.std.proofs.Common.{◌≡◌, length}
use Rattle.gs_audit.specs.inside.Running.{IsAuditing}
use Rattle.gs_audit.proofs.audits.audit_left.Given as goal

abbrev pub invariant-loop-next : goal.invariant-loop-next
invariant-loop-next l = record {
  under_way : IsAuditing l.fn.plan l.fn.start l.initial.scan.events l.scan.events l.auditing;
  nodes : l.scan.nodes ≡ l.initial.scan.nodes;
  places : length l.incs.items ≡ l.scan.nodes;
}

abbrev pub decreases-loop-next : goal.decreases-loop-next
decreases-loop-next l = length l.scan.events
