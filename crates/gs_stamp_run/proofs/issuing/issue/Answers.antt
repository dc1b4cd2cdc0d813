use Rattle.gs_stamp_run.proofs.Going.{cut_short}
use Rattle.gs_stamp_run.proofs.issuing.issue.Goals as goal

pub returns-in-Err-write_stamp-clause-err : goal.returns-in-Err-write_stamp-clause-err
returns-in-Err-write_stamp-clause-err g c n =
    cut_short n c.args.stamper.now.next c.in-Ok.stamp c.next_stamp.new.stamper.next (g.C.Clock.left c.args.clock.now) (g.C.Clock.left c.next_stamp.new.clock) c.in-Err-write_stamp.status (g.K.Sink.bytes c.args.out.now) (g.K.Sink.bytes c.write_stamp.new.out)
    c.in-Ok.ensures.ok.0 c.in-Ok.ensures.ok.1 c.in-Ok.ensures.low c.in-Ok.ensures.told c.in-Err-write_stamp.ensures.cut c.in-Err-write_stamp.ensures.err
