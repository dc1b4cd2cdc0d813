use Rattle.std.proofs.Common.{drop}
use Rattle.gs_audit.specs.inside.Running.{IsAuditing}
use Rattle.gs_audit.proofs.audits.audit_all.Given as goal

abbrev pub invariant-loop-event : goal.invariant-loop-event
invariant-loop-event l = IsAuditing l.fn.plan l.fn.start l.events (drop l.event-index l.events) l.auditing
