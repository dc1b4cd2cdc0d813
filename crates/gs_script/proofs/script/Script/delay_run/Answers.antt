use Rattle.std.proofs.Common.{arith, subst}
use Rattle.gs_script.specs.inside.Kept.{delay_set, least_between}
use Rattle.gs_script.specs.Lines.{delay_said}
use Rattle.gs_script.specs.Script.{IsScript}
use Rattle.gs_script.proofs.Numbers.{delay_read, said_lasts}
use Rattle.gs_script.proofs.script.Script.delay_run.Goals as goal

pub returns-clause-value : goal.returns-clause-value
returns-clause-value c =
    let s = c.self.inside in
    let way = rw (← c.self.view_is) at c.way-way.ensures in
    let sent = rw (← c.self.view_is) at c.node.ensures in
    let received = rw (← c.self.view_is) at c.node-2.ensures in
    let star = rw (← c.self.view_is) at c.star.ensures in
    let last = c.delay_at-last.ensures s.lines.items c.args.from c.args.to star.beacons sent.sent received.received way.named in
    rw (← c.self.view_is) (rw (c.unwrap_or.ensures, c.delay_set.ensures, c.deref.ensures.value, way.least)
    (said_lasts (delay_said c.args.from c.args.to) delay_set (least_between s.text c.args.from c.args.to) s.lines.items c.args.t _ _ (delay_read c.args.from c.args.to) last))

pub returns-clause-low : goal.returns-clause-low
returns-clause-low c =
    let lasts = returns-clause-value c in
    rw (← lasts.same c.args.t (omega arith) lasts.here) ((subst IsScript c.self.view_is c.self.invariant.script).delay_low c.args.from c.args.to c.args.t c.requires.neighbours)

pub returns-clause-high : goal.returns-clause-high
returns-clause-high c =
    let lasts = returns-clause-value c in
    rw (← lasts.same c.args.t (omega arith) lasts.here) ((subst IsScript c.self.view_is c.self.invariant.script).delay_high c.args.from c.args.to c.args.t c.requires.neighbours)
