use Rattle.std.proofs.Common.{length}
use Rattle.gs_record.specs.inside.UnderWay.{IsRecording}
use Rattle.gs_record.proofs.record.record_script.Given as goal

abbrev pub invariant-loop-world : goal.invariant-loop-world
invariant-loop-world g l =
    IsRecording l.fn.plan l.fn.script l.world.plan l.world.world l.feed
    (g.K.Sink.bytes l.fn.out) (g.K.Sink.bytes l.out) (g.K.Sink.faults l.fn.out) (g.K.Sink.faults l.out)

abbrev pub decreases-loop-world : goal.decreases-loop-world
decreases-loop-world g l = length l.feed
