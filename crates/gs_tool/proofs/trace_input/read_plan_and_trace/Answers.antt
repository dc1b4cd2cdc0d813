use Rattle.std.proofs.Common.{refl}
use Rattle.gs_inputs.specs.SourceSeen.{source_in}
use Rattle.gs_inputs.specs.Sources.{FilesSeen, seen}
use Rattle.gs_tool.proofs.TracesRead.{no_plan_of_both, no_trace}
use Rattle.gs_tool.proofs.trace_input.read_plan_and_trace.Goals as goal

pub returns-in_err-bytes-clause-err : goal.returns-in_err-bytes-clause-err
returns-in_err-bytes-clause-err g c =
    let content = g.F.Files.content in
    let faults = g.F.Files.faults in
    let mid = faults c.read_source.new.files in
    let first : FilesSeen = seen (content c.args.files.now) (faults c.args.files.now) mid in
    let second : FilesSeen = seen (content c.read_source.new.files) mid (faults c.read_file.new.files) in
    no_trace first second c.args.plan.now c.args.trace.now (source_in c.in_ok-source.source)
    c.from_residual-in_err-bytes.result c.in_err-bytes.field-0.0 c.from_residual-in_err-bytes.ensures.1
    (record { same = c.in_ok-source.ensures.same; meets = refl; earlier = c.in_ok-source.ensures.later })
    c.in_ok-source.ensures.ok c.in_err-bytes.ensures.err

pub returns-in_err-plan-clause-err : goal.returns-in_err-plan-clause-err
returns-in_err-plan-clause-err g c =
    let content = g.F.Files.content in
    let faults = g.F.Files.faults in
    let mid = faults c.read_source.new.files in
    let first : FilesSeen = seen (content c.args.files.now) (faults c.args.files.now) mid in
    let second : FilesSeen = seen (content c.read_source.new.files) mid (faults c.read_file.new.files) in
    no_plan_of_both first second c.args.plan.now c.args.trace.now (source_in c.in_ok-source.source) c.in_ok-bytes.bytes.items
    c.from_residual-in_err-plan.result c.in_err-plan.field-0.0 c.from_residual-in_err-plan.ensures.1
    (record { same = c.in_ok-source.ensures.same; meets = refl; earlier = c.in_ok-source.ensures.later })
    c.in_ok-source.ensures.ok c.in_ok-bytes.ensures.ok c.in_err-plan.ensures.err
