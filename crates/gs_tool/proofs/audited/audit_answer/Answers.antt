use Rattle.std.proofs.Common.{inl, subst, List, ℕ}
use Rattle.gs_cli.specs.Reply.{answer_in}
use Rattle.gs_tool.specs.Audited.{IsAudited}
use Rattle.gs_inputs.specs.Sources.{FilesSeen, seen}
use Rattle.gs_tool.proofs.TracesRead.{none_along}
use Rattle.gs_tool.proofs.audited.audit_answer.Goals as goal

pub returns-in_err-inputs : goal.returns-in_err-inputs
returns-in_err-inputs g c =
    let faults = g.F.Files.faults in
    let files : FilesSeen = seen (g.F.Files.content c.args.files.now) (faults c.args.files.now) (faults c.read_plan_and_trace.new.files) in
    none_along IsAudited files c.args.plan.now c.args.trace.now
    c.from_residual.result c.in_err-inputs.field-0.0 c.from_residual.ensures.1 c.in_err-inputs.ensures.err

pub returns : goal.returns
returns g c = inl (
  c.in_ok-inputs.inputs.plan,
  c.in_ok-inputs.inputs.bytes.items,
  c.in_ok-inputs.ensures.plan,
  c.in_ok-inputs.ensures.trace,
  subst (λ (bytes : List ℕ). IsAudited c.in_ok-inputs.inputs.plan bytes (answer_in c.in_ok-audited.field-0)) c.deref.ensures.value
      c.in_ok-audited.ensures,
)
