use Rattle.std.proofs.lemmas.Result.{err_from_is_err_and}
use Rattle.gs_node_run.proofs.Pieces.{front_of_first, front_of_next}
use Rattle.gs_node_run.proofs.tracing.write_all.Goals as goal

pub returns-in_err-write-clause-err : goal.returns-in_err-write-clause-err
returns-in_err-write-clause-err g c =
    let answer = err_from_is_err_and c.from_residual.result c.from_residual.ensures.1 in
    rw answer.1 (front_of_first _ _ c.args.head.now _ c.in_err-write.ensures.err)

pub returns-in_err-write_event-clause-err : goal.returns-in_err-write_event-clause-err
returns-in_err-write_event-clause-err g c =
    let answer = err_from_is_err_and c.from_residual-in_err-write_event.result c.from_residual-in_err-write_event.ensures.1 in
    rw answer.1 (front_of_next _ _ _ c.args.head.now c.args.events.now c.loop-event.event-index _ c.loop-event-test.true c.loop-event.invariant.written c.in_err-write_event.ensures.err)
