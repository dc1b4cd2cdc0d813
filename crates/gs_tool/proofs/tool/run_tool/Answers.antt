-- Both kinds of a reply answer the words, and so does a trace.
use Rattle.std.proofs.Common.{Some, map, string_bytes, ◌∙◌, ap, subst}
use Rattle.gs_cli.specs.Reply.{answer_in}
use Rattle.gs_tool.specs.inside.Meaning.{meaning}
use Rattle.gs_tool.specs.Runs.{IsAnswer}
use Rattle.gs_inputs.specs.Sources.{FilesSeen, seen}
use Rattle.gs_cli.specs.Stops.{StopsWith}
use Rattle.gs_tool.proofs.AuditsDone.{audits_complete, audits_keep_bounds}
use Rattle.gs_tool.proofs.Completing.{answers_complete}
use Rattle.gs_tool.proofs.Done.{answers_keep_bounds}
use Rattle.gs_tool.proofs.OrdersDone.{orders_agree}
use Rattle.gs_tool.proofs.RunEnds.{audits_keep, runs_agree, runs_complete, runs_complete_audits, runs_keep_bounds, trace_runs}
use Rattle.gs_tool.specs.declared.command.Command.{Command}
use Rattle.gs_tool.proofs.tool.run_tool.Goals as goal

pub returns-in-Ok-clause-completes : goal.returns-in-Ok-clause-completes
returns-in-Ok-clause-completes g c =
    let faults = g.F.Files.faults in
    let files : FilesSeen = seen (g.F.Files.content c.args.files.now) (faults c.args.files.now) (faults c.answer.new.files) in
    answers_complete files (map string_bytes c.args.words.now) (answer_in c.in-Ok.reply)
    (g.K.Sink.bytes c.args.out.now) (g.K.Sink.bytes c.write.new.out)
    (g.K.Sink.faults c.args.out.now) (g.K.Sink.faults c.write.new.out)
    c.write.result c.in-Ok.ensures.answer c.write.ensures

pub returns-in-Ok-clause-bounds : goal.returns-in-Ok-clause-bounds
returns-in-Ok-clause-bounds g c =
    let faults = g.F.Files.faults in
    let files : FilesSeen = seen (g.F.Files.content c.args.files.now) (faults c.args.files.now) (faults c.answer.new.files) in
    answers_keep_bounds files (map string_bytes c.args.words.now) (answer_in c.in-Ok.reply)
    (g.K.Sink.bytes c.args.out.now) (g.K.Sink.bytes c.write.new.out)
    (g.K.Sink.faults c.args.out.now) (g.K.Sink.faults c.write.new.out)
    c.write.result c.in-Ok.ensures.answer c.write.ensures

pub returns-in-Err-Refused-clause-completes : goal.returns-in-Err-Refused-clause-completes
returns-in-Err-Refused-clause-completes g c =
    let faults = g.F.Files.faults in
    let files : FilesSeen = seen (g.F.Files.content c.args.files.now) (faults c.args.files.now) (faults c.answer.new.files) in
    let words = map string_bytes c.args.words.now in
    let write = c.write-in-Err-Refused in
    answers_complete files words (answer_in c.in-Err-Refused.reply)
    (g.K.Sink.bytes c.args.out.now) (g.K.Sink.bytes write.new.out)
    (g.K.Sink.faults c.args.out.now) (g.K.Sink.faults write.new.out)
    write.result (subst (StopsWith (IsAnswer files words)) c.in-Err-Refused.field-0-is c.in-Err-Refused.ensures.answer) write.ensures

pub returns-in-Err-Refused-clause-bounds : goal.returns-in-Err-Refused-clause-bounds
returns-in-Err-Refused-clause-bounds g c =
    let faults = g.F.Files.faults in
    let files : FilesSeen = seen (g.F.Files.content c.args.files.now) (faults c.args.files.now) (faults c.answer.new.files) in
    let words = map string_bytes c.args.words.now in
    let write = c.write-in-Err-Refused in
    answers_keep_bounds files words (answer_in c.in-Err-Refused.reply)
    (g.K.Sink.bytes c.args.out.now) (g.K.Sink.bytes write.new.out)
    (g.K.Sink.faults c.args.out.now) (g.K.Sink.faults write.new.out)
    write.result (subst (StopsWith (IsAnswer files words)) c.in-Err-Refused.field-0-is c.in-Err-Refused.ensures.answer) write.ensures

pub returns-in-Ok-clause-orders : goal.returns-in-Ok-clause-orders
returns-in-Ok-clause-orders g c =
    let faults = g.F.Files.faults in
    let files : FilesSeen = seen (g.F.Files.content c.args.files.now) (faults c.args.files.now) (faults c.answer.new.files) in
    orders_agree files (map string_bytes c.args.words.now) (answer_in c.in-Ok.reply)
    (g.K.Sink.bytes c.args.out.now) (g.K.Sink.bytes c.write.new.out)
    (g.K.Sink.faults c.args.out.now) (g.K.Sink.faults c.write.new.out)
    c.write.result c.in-Ok.ensures.answer c.write.ensures

pub returns-in-Ok-clause-audits_complete : goal.returns-in-Ok-clause-audits_complete
returns-in-Ok-clause-audits_complete g c =
    let faults = g.F.Files.faults in
    let files : FilesSeen = seen (g.F.Files.content c.args.files.now) (faults c.args.files.now) (faults c.answer.new.files) in
    audits_complete files (map string_bytes c.args.words.now) (answer_in c.in-Ok.reply)
    (g.K.Sink.bytes c.args.out.now) (g.K.Sink.bytes c.write.new.out)
    (g.K.Sink.faults c.args.out.now) (g.K.Sink.faults c.write.new.out)
    c.write.result c.in-Ok.ensures.answer c.write.ensures

pub returns-in-Err-Refused-clause-orders : goal.returns-in-Err-Refused-clause-orders
returns-in-Err-Refused-clause-orders g c =
    let faults = g.F.Files.faults in
    let files : FilesSeen = seen (g.F.Files.content c.args.files.now) (faults c.args.files.now) (faults c.answer.new.files) in
    let words = map string_bytes c.args.words.now in
    let write = c.write-in-Err-Refused in
    orders_agree files words (answer_in c.in-Err-Refused.reply)
    (g.K.Sink.bytes c.args.out.now) (g.K.Sink.bytes write.new.out)
    (g.K.Sink.faults c.args.out.now) (g.K.Sink.faults write.new.out)
    write.result (subst (StopsWith (IsAnswer files words)) c.in-Err-Refused.field-0-is c.in-Err-Refused.ensures.answer) write.ensures

pub returns-in-Ok-clause-audits : goal.returns-in-Ok-clause-audits
returns-in-Ok-clause-audits g c =
    let faults = g.F.Files.faults in
    let files : FilesSeen = seen (g.F.Files.content c.args.files.now) (faults c.args.files.now) (faults c.answer.new.files) in
    audits_keep_bounds files (map string_bytes c.args.words.now) (answer_in c.in-Ok.reply)
    (g.K.Sink.bytes c.args.out.now) (g.K.Sink.bytes c.write.new.out)
    (g.K.Sink.faults c.args.out.now) (g.K.Sink.faults c.write.new.out)
    c.write.result c.in-Ok.ensures.answer c.write.ensures

pub returns-in-Err-Refused-clause-audits_complete : goal.returns-in-Err-Refused-clause-audits_complete
returns-in-Err-Refused-clause-audits_complete g c =
    let faults = g.F.Files.faults in
    let files : FilesSeen = seen (g.F.Files.content c.args.files.now) (faults c.args.files.now) (faults c.answer.new.files) in
    let words = map string_bytes c.args.words.now in
    let write = c.write-in-Err-Refused in
    audits_complete files words (answer_in c.in-Err-Refused.reply)
    (g.K.Sink.bytes c.args.out.now) (g.K.Sink.bytes write.new.out)
    (g.K.Sink.faults c.args.out.now) (g.K.Sink.faults write.new.out)
    write.result (subst (StopsWith (IsAnswer files words)) c.in-Err-Refused.field-0-is c.in-Err-Refused.ensures.answer) write.ensures

pub returns-in-Err-Refused-clause-audits : goal.returns-in-Err-Refused-clause-audits
returns-in-Err-Refused-clause-audits g c =
    let faults = g.F.Files.faults in
    let files : FilesSeen = seen (g.F.Files.content c.args.files.now) (faults c.args.files.now) (faults c.answer.new.files) in
    let words = map string_bytes c.args.words.now in
    let write = c.write-in-Err-Refused in
    audits_keep_bounds files words (answer_in c.in-Err-Refused.reply)
    (g.K.Sink.bytes c.args.out.now) (g.K.Sink.bytes write.new.out)
    (g.K.Sink.faults c.args.out.now) (g.K.Sink.faults write.new.out)
    write.result (subst (StopsWith (IsAnswer files words)) c.in-Err-Refused.field-0-is c.in-Err-Refused.ensures.answer) write.ensures

pub returns-in-Some-Trace-clause-runs : goal.returns-in-Some-Trace-clause-runs
returns-in-Some-Trace-clause-runs g c =
    let faults = g.F.Files.faults in
    let files : FilesSeen = seen (g.F.Files.content c.args.files.now) (faults c.args.files.now) (faults c.trace.new.files) in
    let words = map string_bytes c.args.words.now in
    let is = c.in-Some-Trace.ensures.some ∙ ap (λ (x : Command). Some (meaning x)) c.in-Some-Trace.field-0-is in
    trace_runs files words c.in-Some-Trace.plan.now c.in-Some-Trace.script.now
    (g.K.Sink.bytes c.args.out.now) (g.K.Sink.bytes c.trace.new.out)
    (g.K.Sink.faults c.args.out.now) (g.K.Sink.faults c.trace.new.out) c.trace.result is c.trace.ensures.runs

pub returns-in-Some-Trace-clause-completes : goal.returns-in-Some-Trace-clause-completes
returns-in-Some-Trace-clause-completes g c =
    let faults = g.F.Files.faults in
    let files : FilesSeen = seen (g.F.Files.content c.args.files.now) (faults c.args.files.now) (faults c.trace.new.files) in
    let words = map string_bytes c.args.words.now in
    let is = c.in-Some-Trace.ensures.some ∙ ap (λ (x : Command). Some (meaning x)) c.in-Some-Trace.field-0-is in
    runs_complete files words (g.K.Sink.bytes c.args.out.now) (g.K.Sink.bytes c.trace.new.out)
    (g.K.Sink.faults c.args.out.now) (g.K.Sink.faults c.trace.new.out) c.trace.result
    (trace_runs files words c.in-Some-Trace.plan.now c.in-Some-Trace.script.now
    (g.K.Sink.bytes c.args.out.now) (g.K.Sink.bytes c.trace.new.out)
    (g.K.Sink.faults c.args.out.now) (g.K.Sink.faults c.trace.new.out) c.trace.result is c.trace.ensures.runs)

pub returns-in-Some-Trace-clause-bounds : goal.returns-in-Some-Trace-clause-bounds
returns-in-Some-Trace-clause-bounds g c =
    let faults = g.F.Files.faults in
    let files : FilesSeen = seen (g.F.Files.content c.args.files.now) (faults c.args.files.now) (faults c.trace.new.files) in
    let words = map string_bytes c.args.words.now in
    let is = c.in-Some-Trace.ensures.some ∙ ap (λ (x : Command). Some (meaning x)) c.in-Some-Trace.field-0-is in
    runs_keep_bounds files words (g.K.Sink.bytes c.args.out.now) (g.K.Sink.bytes c.trace.new.out)
    (g.K.Sink.faults c.args.out.now) (g.K.Sink.faults c.trace.new.out) c.trace.result
    (trace_runs files words c.in-Some-Trace.plan.now c.in-Some-Trace.script.now
    (g.K.Sink.bytes c.args.out.now) (g.K.Sink.bytes c.trace.new.out)
    (g.K.Sink.faults c.args.out.now) (g.K.Sink.faults c.trace.new.out) c.trace.result is c.trace.ensures.runs)

pub returns-in-Some-Trace-clause-orders : goal.returns-in-Some-Trace-clause-orders
returns-in-Some-Trace-clause-orders g c =
    let faults = g.F.Files.faults in
    let files : FilesSeen = seen (g.F.Files.content c.args.files.now) (faults c.args.files.now) (faults c.trace.new.files) in
    let words = map string_bytes c.args.words.now in
    let is = c.in-Some-Trace.ensures.some ∙ ap (λ (x : Command). Some (meaning x)) c.in-Some-Trace.field-0-is in
    runs_agree files words (g.K.Sink.bytes c.args.out.now) (g.K.Sink.bytes c.trace.new.out)
    (g.K.Sink.faults c.args.out.now) (g.K.Sink.faults c.trace.new.out) c.trace.result
    (trace_runs files words c.in-Some-Trace.plan.now c.in-Some-Trace.script.now
    (g.K.Sink.bytes c.args.out.now) (g.K.Sink.bytes c.trace.new.out)
    (g.K.Sink.faults c.args.out.now) (g.K.Sink.faults c.trace.new.out) c.trace.result is c.trace.ensures.runs)

pub returns-in-Some-Trace-clause-audits_complete : goal.returns-in-Some-Trace-clause-audits_complete
returns-in-Some-Trace-clause-audits_complete g c =
    let faults = g.F.Files.faults in
    let files : FilesSeen = seen (g.F.Files.content c.args.files.now) (faults c.args.files.now) (faults c.trace.new.files) in
    let words = map string_bytes c.args.words.now in
    let is = c.in-Some-Trace.ensures.some ∙ ap (λ (x : Command). Some (meaning x)) c.in-Some-Trace.field-0-is in
    runs_complete_audits files words (g.K.Sink.bytes c.args.out.now) (g.K.Sink.bytes c.trace.new.out)
    (g.K.Sink.faults c.args.out.now) (g.K.Sink.faults c.trace.new.out) c.trace.result
    (trace_runs files words c.in-Some-Trace.plan.now c.in-Some-Trace.script.now
    (g.K.Sink.bytes c.args.out.now) (g.K.Sink.bytes c.trace.new.out)
    (g.K.Sink.faults c.args.out.now) (g.K.Sink.faults c.trace.new.out) c.trace.result is c.trace.ensures.runs)

pub returns-in-Some-Trace-clause-audits : goal.returns-in-Some-Trace-clause-audits
returns-in-Some-Trace-clause-audits g c =
    let faults = g.F.Files.faults in
    let files : FilesSeen = seen (g.F.Files.content c.args.files.now) (faults c.args.files.now) (faults c.trace.new.files) in
    let words = map string_bytes c.args.words.now in
    let is = c.in-Some-Trace.ensures.some ∙ ap (λ (x : Command). Some (meaning x)) c.in-Some-Trace.field-0-is in
    audits_keep files words (g.K.Sink.bytes c.args.out.now) (g.K.Sink.bytes c.trace.new.out)
    (g.K.Sink.faults c.args.out.now) (g.K.Sink.faults c.trace.new.out) c.trace.result
    (trace_runs files words c.in-Some-Trace.plan.now c.in-Some-Trace.script.now
    (g.K.Sink.bytes c.args.out.now) (g.K.Sink.bytes c.trace.new.out)
    (g.K.Sink.faults c.args.out.now) (g.K.Sink.faults c.trace.new.out) c.trace.result is c.trace.ensures.runs)
