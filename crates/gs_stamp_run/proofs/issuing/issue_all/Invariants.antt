use Rattle.std.proofs.Common.{◌≡◌, ◌≤◌, false}
use Rattle.gs_stamp.specs.Disk.{LeavesOnly}
use Rattle.gs_stamp.specs.Format.{ceiling_of}
use Rattle.gs_stamp_run.specs.inside.Turns.{Far}
use Rattle.gs_stamp_run.proofs.issuing.issue_all.Given as goal

abbrev pub invariant-loop-turn : goal.invariant-loop-turn
invariant-loop-turn g l = record {
  far : Far l.count l._turn l.initial.stamper.next l.stamper.next (g.C.Clock.left l.initial.clock) (g.C.Clock.left l.clock) (g.K.Sink.bytes l.initial.out) (g.K.Sink.bytes l.out);
  is_open : l.stamper.closed ≡ false;
  moments : LeavesOnly g.T.Store.moment g.T.Store.left_since l.initial.stamper.store l.stamper.store (λ c. l.initial.stamper.next ≤ ceiling_of c);
  clock : g.C.Clock.faults l.initial.clock ≤ g.C.Clock.faults l.clock;
  store : g.T.Store.faults l.initial.stamper.store ≤ g.T.Store.faults l.stamper.store;
  sink : g.K.Sink.faults l.initial.out ≤ g.K.Sink.faults l.out;
}
