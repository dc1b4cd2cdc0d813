use Rattle.std.proofs.Common.{arith, subst}
use Rattle.gs_script.specs.inside.Kept.{inc_set}
use Rattle.gs_script.specs.Lines.{inc_said}
use Rattle.gs_script.specs.Script.{IsScript}
use Rattle.gs_script.proofs.Numbers.{inc_read, said_lasts}
use Rattle.gs_script.proofs.script.Script.inc_run.Goals as goal

pub returns-clause-value : goal.returns-clause-value
returns-clause-value c =
    let s = c.self.inside in
    let star = rw (← c.self.view_is) at c.star.ensures in
    let node = rw (← c.self.view_is) at c.node.ensures in
    let last = c.drift_at-last.ensures s.lines.items c.args.v star.clock node.clock in
    rw (← c.self.view_is) (rw (c.unwrap_or.ensures, c.inc_set.ensures, c.deref.ensures.value) (said_lasts (inc_said c.args.v) inc_set s.text.lo s.lines.items c.args.t _ _ (inc_read c.args.v) last))

pub returns-clause-low : goal.returns-clause-low
returns-clause-low c =
    let lasts = returns-clause-value c in
    rw (← lasts.same c.args.t (omega arith) lasts.here) ((subst IsScript c.self.view_is c.self.invariant.script).inc_low c.args.v c.args.t)

pub returns-clause-high : goal.returns-clause-high
returns-clause-high c =
    let lasts = returns-clause-value c in
    rw (← lasts.same c.args.t (omega arith) lasts.here) ((subst IsScript c.self.view_is c.self.invariant.script).inc_high c.args.v c.args.t)
