use Rattle.std.proofs.Common.{arith, false}
use Rattle.gs_script.specs.inside.Kept.{is_lost_set}
use Rattle.gs_script.specs.Lines.{loss_said}
use Rattle.gs_script.specs.Script.{delay_of}
use Rattle.gs_script.proofs.Numbers.{loss_read, said_lasts, shorter}
use Rattle.gs_script.proofs.script.Script.way_run.Goals as goal

pub returns-clause-delay : goal.returns-clause-delay
returns-clause-delay c =
    let run = c.delay_run-delay.ensures.value in
    let here = run.here in
    let here2 = c.loss_run-loss.ensures.here in
    let least = c.min.ensures in
    shorter (delay_of c.args.self.now c.args.from c.args.to) c.args.t c.delay_run-delay.result.until c.min.result c.delay_run-delay.result.value run (omega (arith, here, here2, least)) (omega (arith, least))

pub returns-clause-lost : goal.returns-clause-lost
returns-clause-lost c =
    let s = c.self.inside in
    let last = rw (← c.self.view_is) at c.loss_run-loss.ensures in
    let here = c.delay_run-delay.ensures.value.here in
    let here2 = c.loss_run-loss.ensures.here in
    let least = c.min.ensures in
    let lasts = said_lasts (loss_said c.args.from c.args.to) is_lost_set false s.lines.items c.args.t _ _ (loss_read c.args.from c.args.to) last in
    rw (← c.self.view_is) (rw (c.unwrap_or.ensures, c.is_lost_set.ensures, c.deref.ensures.value)
    (shorter _ c.args.t c.loss_run-loss.result.until c.min.result _ lasts (omega (arith, here, here2, least)) (omega (arith, least))))
