use Rattle.std.proofs.Common.{inl}
use Rattle.gs_tool.specs.Runs.{IsTold}
use Rattle.gs_tool.specs.Settled.{settled}
use Rattle.gs_inputs.specs.Sources.{FilesSeen, seen}
use Rattle.gs_inputs.proofs.Reading.{none_over}
use Rattle.gs_tool.proofs.settle.settle_answer.Goals as goal

pub returns-in_err-inputs-clause-answer : goal.returns-in_err-inputs-clause-answer
returns-in_err-inputs-clause-answer g c =
    let faults = g.F.Files.faults in
    let files : FilesSeen = seen (g.F.Files.content c.args.files.now) (faults c.args.files.now) (faults c.read_inputs.new.files) in
    none_over (IsTold (settled c.args.gamma)) files c.args.plan.now c.args.script.now
    c.from_residual.result c.in_err-inputs.field-0.0 c.from_residual.ensures.1 c.in_err-inputs.ensures.err

pub returns-clause-answer : goal.returns-clause-answer
returns-clause-answer g c = inl (
  c.in_ok-inputs.inputs.plan,
  c.in_ok-inputs.inputs.script,
  c.in_ok-inputs.ensures.plan,
  c.in_ok-inputs.ensures.script,
  c.in_ok-settled.ensures,
)
