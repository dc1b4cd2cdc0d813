-- What was given in the first or the second read was given over both.
use Rattle.std.proofs.Common.{refl}
use Rattle.gs_inputs.specs.SourceSeen.{source_in}
use Rattle.gs_inputs.specs.Sources.{FilesSeen, seen}
use Rattle.gs_inputs.proofs.Reading.{no_script, none_accepted}
use Rattle.gs_inputs.proofs.inputs.read_inputs.Goals as goal

pub returns-in_err-script-clause-err : goal.returns-in_err-script-clause-err
returns-in_err-script-clause-err g c =
    let content = g.F.Files.content in
    let faults = g.F.Files.faults in
    let mid = faults c.read_source.new.files in
    let first : FilesSeen = seen (content c.args.files.now) (faults c.args.files.now) mid in
    let second : FilesSeen = seen (content c.read_source.new.files) mid (faults c.read_source-2.new.files) in
    no_script first second c.args.plan.now c.args.script.now (source_in c.in_ok-plan.plan)
    c.from_residual-in_err-script.result c.in_err-script.field-0.0 c.from_residual-in_err-script.ensures.1
    (record { same = c.in_ok-plan.ensures.same; meets = refl; earlier = c.in_ok-plan.ensures.later })
    c.in_ok-plan.ensures.ok c.in_err-script.ensures.err

pub returns-clause-err : goal.returns-clause-err
returns-clause-err g c =
    let content = g.F.Files.content in
    let faults = g.F.Files.faults in
    let mid = faults c.read_source.new.files in
    let first : FilesSeen = seen (content c.args.files.now) (faults c.args.files.now) mid in
    let second : FilesSeen = seen (content c.read_source.new.files) mid (faults c.read_source-2.new.files) in
    none_accepted first second c.args.plan.now c.args.script.now
    (source_in c.in_ok-plan.plan) (source_in c.in_ok-script.script) c.accepted.result
    (record { same = c.in_ok-plan.ensures.same; meets = refl; earlier = c.in_ok-plan.ensures.later })
    c.in_ok-plan.ensures.ok c.in_ok-script.ensures.ok c.accepted.ensures.err
