use Rattle.std.proofs.Common.{◌≡◌, List, ℕ, rules, subst}
use Rattle.std.proofs.lemmas.Result.{err_from_is_err_and}
use Rattle.gs_io.specs.Causes.{Rose}
use Rattle.gs_io.specs.Held.{AppendsFront}
use Rattle.gs_trace.specs.Worlds.{event_bytes}
use Rattle.gs_record.proofs.Recording.{none_is_front}
use Rattle.gs_record.proofs.record.write_event.Goals as goal

pub returns-in_err-bytes-clause-stop : goal.returns-in_err-bytes-clause-stop
returns-in_err-bytes-clause-stop g c =
    let answer = err_from_is_err_and c.from_residual.result c.from_residual.ensures.1 in
    rw (answer.1, answer.2) (none_is_front (g.K.Sink.bytes c.args.out.now) (event_bytes c.args.event.now))

pub returns-in_err-write-clause-stop : goal.returns-in_err-write-clause-stop
returns-in_err-write-clause-stop g c =
    let answer = err_from_is_err_and c.from_residual-in_err-write.result c.from_residual-in_err-write.ensures.1 in
    let is : c.deref.result.now ≡ event_bytes c.args.event.now = search rules in
    let rose : Rose (g.K.Sink.faults c.args.out.now) (g.K.Sink.faults c.write.new.self) = search rules in
    rw (answer.1, answer.2)
    (subst (λ (xs : List ℕ). AppendsFront (g.K.Sink.bytes c.args.out.now) (g.K.Sink.bytes c.write.new.self) xs) is c.in_err-write.ensures.err, rose)
