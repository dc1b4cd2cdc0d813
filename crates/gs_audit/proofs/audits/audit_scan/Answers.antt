use Rattle.std.proofs.lemmas.Result.{IfOk-weaker}
use Rattle.gs_audit.proofs.Exact.{is_exact, is_kept, is_never}
use Rattle.gs_audit.proofs.audits.audit_scan.Goals as goal

pub returns-clause-exact : goal.returns-clause-exact
returns-clause-exact c = IfOk-weaker c.audit_left.result _ _ (λ v is. is_exact c.args.plan.now c.args.start.now c.args.scan.events v is) c.audit_left.ensures

pub returns-clause-kept : goal.returns-clause-kept
returns-clause-kept c = IfOk-weaker c.audit_left.result _ _ (λ v is. is_kept c.args.plan.now c.args.start.now c.args.scan.events v is) c.audit_left.ensures

pub returns-clause-never : goal.returns-clause-never
returns-clause-never c = IfOk-weaker c.audit_left.result _ _ (λ v is. is_never c.args.plan.now c.args.start.now c.args.scan.events v is) c.audit_left.ensures
