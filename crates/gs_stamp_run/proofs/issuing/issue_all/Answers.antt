use Rattle.std.proofs.Common.{◌+◌, ◌-◌, ◌≤◌, arith}
use Rattle.gs_stamp.specs.Format.{ceiling_of}
use Rattle.gs_stamp.proofs.Moments.{started, then_runs, weaker}
use Rattle.gs_stamp_run.proofs.Going.{begun, ends, finished, one_more}
use Rattle.gs_stamp_run.proofs.issuing.issue_all.Goals as goal

pub loop-turn-init : goal.loop-turn-init
loop-turn-init g c = record {
  far = begun c.args.count c.args.stamper.now.next (g.C.Clock.left c.args.clock.now) (g.K.Sink.bytes c.args.out.now);
  is_open = c.requires;
  moments = started g.T.Store.moment g.T.Store.left_since c.args.stamper.now.store (λ f. c.args.stamper.now.next ≤ ceiling_of f)
      (λ f left. c.args.stamper.now.above f (g.met.T.Store.only_now c.args.stamper.now.store f left));
  clock = omega arith;
  store = omega arith;
  sink = omega arith;
}

pub returns-in-Err-clause-went : goal.returns-in-Err-clause-went
returns-in-Err-clause-went g c =
    let n = c.args.count - (c.loop-turn._turn + 1) in
    ends c.args.count c.loop-turn._turn n c.args.stamper.now.next c.loop-turn.stamper.next c.issue.new.stamper.next (g.C.Clock.left c.args.clock.now) (g.C.Clock.left c.loop-turn.clock) c.in-Err.status (g.K.Sink.bytes c.args.out.now) (g.K.Sink.bytes c.loop-turn.out) (g.K.Sink.bytes c.issue.new.out)
    c.loop-turn.invariant.far (omega (arith, c.loop-turn-test.true)) c.in-Err.ensures.undone (c.in-Err.ensures.err n)

pub loop-turn-preserved : goal.loop-turn-preserved
loop-turn-preserved g c =
    let inv = c.loop-turn.invariant in
    let low = c.args.stamper.now.next in
    let step = weaker g.T.Store.moment g.T.Store.left_since c.loop-turn.stamper.store c.issue.new.stamper.store (λ f. c.loop-turn.stamper.next ≤ ceiling_of f) (λ f. low ≤ ceiling_of f)
    (λ f above. omega (arith, above, inv.far.kept)) c.in-Ok.ensures.any_moment in
    record {
      far = one_more c.args.count c.loop-turn._turn low c.loop-turn.stamper.next c.in-Ok._stamp c.issue.new.stamper.next
          (g.C.Clock.left c.args.clock.now) (g.C.Clock.left c.loop-turn.clock) (g.C.Clock.left c.issue.new.clock) (g.K.Sink.bytes c.args.out.now) (g.K.Sink.bytes c.loop-turn.out) (g.K.Sink.bytes c.issue.new.out)
          inv.far c.loop-turn-test.true c.in-Ok.ensures.ok.0 c.in-Ok.ensures.ok.1 c.in-Ok.ensures.low c.in-Ok.ensures.told c.in-Ok.ensures.ok.2;
      is_open = c.in-Ok.ensures.open;
      moments = then_runs g.T.Store.moment g.T.Store.left_since c.args.stamper.now.store c.loop-turn.stamper.store c.issue.new.stamper.store (λ f. low ≤ ceiling_of f) inv.moments step;
      clock = omega (arith, inv.clock, c.in-Ok.ensures.clock_later);
      store = omega (arith, inv.store, c.in-Ok.ensures.store_later);
      sink = omega (arith, inv.sink, c.in-Ok.ensures.sink_later);
    }

pub returns-clause-went : goal.returns-clause-went
returns-clause-went g c =
    finished c.args.count c.loop-turn._turn c.args.stamper.now.next c.loop-turn.stamper.next (g.C.Clock.left c.args.clock.now) (g.C.Clock.left c.loop-turn.clock) (g.K.Sink.bytes c.args.out.now) (g.K.Sink.bytes c.loop-turn.out)
    (omega (arith, c.loop-turn-test.false, c.loop-turn.auto._turn-end)) c.loop-turn.invariant.far
