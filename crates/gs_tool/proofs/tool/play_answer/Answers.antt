use Rattle.std.proofs.Common.{inl}
use Rattle.std.proofs.lemmas.Result.{err_from_is_err_and}
use Rattle.gs_tool.specs.Runs.{IsTold, played}
use Rattle.gs_inputs.specs.Sources.{FilesSeen, seen}
use Rattle.gs_inputs.proofs.Reading.{none_over}
use Rattle.gs_tool.proofs.tool.play_answer.Goals as goal

pub returns-in_err-inputs-clause-answer : goal.returns-in_err-inputs-clause-answer
returns-in_err-inputs-clause-answer g c =
    let faults = g.F.Files.faults in
    let files : FilesSeen = seen (g.F.Files.content c.args.files.now) (faults c.args.files.now) (faults c.read_inputs.new.files) in
    none_over (IsTold played) files c.args.plan.now c.args.script.now
    c.from_residual.result c.in_err-inputs.field-0.0 c.from_residual.ensures.1 c.in_err-inputs.ensures.err

pub returns-in_err-played-clause-answer : goal.returns-in_err-played-clause-answer
returns-in_err-played-clause-answer g c =
    let answer = err_from_is_err_and c.from_residual-in_err-played.result c.from_residual-in_err-played.ensures.1 in
    rw (answer.1, answer.2) tt

pub returns-clause-answer : goal.returns-clause-answer
returns-clause-answer g c = inl (
  c.in_ok-inputs.inputs.plan,
  c.in_ok-inputs.inputs.script,
  c.in_ok-inputs.ensures.plan,
  c.in_ok-inputs.ensures.script,
  c.in_ok-played.ensures,
)
