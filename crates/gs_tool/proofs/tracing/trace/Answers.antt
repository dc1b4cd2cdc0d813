-- A trace answers its words, and so does what refuses its inputs.
use Rattle.std.proofs.Common.{inl, inr, refl, subst}
use Rattle.gs_cli.specs.Reply.{answer_in}
use Rattle.gs_cli.specs.Stops.{StopsWith}
use Rattle.gs_inputs.specs.Inputs.{AreNoInputs}
use Rattle.gs_inputs.specs.Sources.{FilesSeen, seen}
use Rattle.gs_tool.specs.Traced.{traced}
use Rattle.gs_tool.proofs.tracing.trace.Goals as goal

pub returns-in-Ok-clause-runs : goal.returns-in-Ok-clause-runs
returns-in-Ok-clause-runs g c =
    let plan = c.in-Ok.inputs.plan in
    let said = c.in-Ok.inputs.script in
    inl (traced plan said, (inl (plan, said, c.in-Ok.ensures.plan, c.in-Ok.ensures.script, refl)), c.write_trace.ensures)

pub returns-in-Err-Refused-clause-runs : goal.returns-in-Err-Refused-clause-runs
returns-in-Err-Refused-clause-runs g c =
    let faults = g.F.Files.faults in
    let files : FilesSeen = seen (g.F.Files.content c.args.files.now) (faults c.args.files.now) (faults c.read_inputs.new.files) in
    let refused = subst (StopsWith (AreNoInputs files c.args.plan.now c.args.script.now)) c.in-Err-Refused.field-0-is
    c.in-Err-Refused.ensures.err in
    inl (answer_in c.in-Err-Refused.reply, inr refused, inl (rw c.in-Err-Refused.field-0-is at c.write.ensures))
