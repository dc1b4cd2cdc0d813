use Rattle.std.proofs.lemmas.Result.{err_from_is_err_and}
use Rattle.gs_record.proofs.Recording.{cut_ends, first_is_calm, goes_on, refusal_ends}
use Rattle.gs_record.proofs.record.take.Goals as goal

pub admit-requires : goal.admit-requires
admit-requires g c =
    let (p, s, left, old, before, h) = c.requires in
    first_is_calm p s c.args.world.now.plan c.args.world.now.world c.args.event.now left old
    (g.K.Sink.bytes c.args.out.now) before (g.K.Sink.faults c.args.out.now) h

pub returns-in_err-write_event-clause-stop : goal.returns-in_err-write_event-clause-stop
returns-in_err-write_event-clause-stop g c = λ p s left old before h.
    let answer = err_from_is_err_and c.from_residual.result c.from_residual.ensures.1 in
    rw (answer.1, answer.2) (cut_ends p s c.args.world.now.plan c.args.world.now.world c.args.event.now left old
    (g.K.Sink.bytes c.args.out.now) (g.K.Sink.bytes c.write_event.new.out) before (g.K.Sink.faults c.args.out.now) (g.K.Sink.faults c.write_event.new.out)
    c.in_err-write_event.field-0.0 h c.in_err-write_event.ensures.stop)

pub returns-in_err-admit-clause-stop : goal.returns-in_err-admit-clause-stop
returns-in_err-admit-clause-stop g c = λ p s left old before h.
    let answer = err_from_is_err_and c.from_residual-in_err-admit.result c.from_residual-in_err-admit.ensures.1 in
    rw (answer.1, answer.2) (refusal_ends p s c.args.world.now.plan c.args.world.now.world c.args.event.now left old
    (g.K.Sink.bytes c.args.out.now) (g.K.Sink.bytes c.write_event.new.out) before (g.K.Sink.faults c.args.out.now) (g.K.Sink.faults c.write_event.new.out)
    c.in_err-admit.field-0.0 h c.in_ok-write_event.ensures.written c.in_err-admit.ensures.stop)

pub returns-clause-ok : goal.returns-clause-ok
returns-clause-ok g c = λ p s left old before h.
    goes_on p s c.args.world.now.plan c.admit.new.world.plan c.args.world.now.world c.admit.new.world.world c.args.event.now left old
    (g.K.Sink.bytes c.args.out.now) (g.K.Sink.bytes c.write_event.new.out) before (g.K.Sink.faults c.args.out.now) (g.K.Sink.faults c.write_event.new.out)
    h c.in_ok-write_event.ensures.written c.write_event.ensures.later c.admit.ensures.plan c.in_ok-admit.ensures.allowed c.in_ok-admit.ensures.effect
