use Rattle.std.proofs.Common.{arith, false, sym}
use Rattle.gs_script.specs.inside.Kept.{is_lost_set}
use Rattle.gs_script.specs.Lines.{loss_said}
use Rattle.gs_script.proofs.Numbers.{loss_read, said_lasts}
use Rattle.gs_script.proofs.script.Script.lost.Goals as goal

pub returns : goal.returns
returns c =
    let s = c.self.inside in
    let last = rw (← c.self.view_is) at c.loss_run-loss.ensures in
    let lasts = said_lasts (loss_said c.args.from c.args.to) is_lost_set false s.lines.items c.args.t _ _ (loss_read c.args.from c.args.to) last in
    rw (← c.self.view_is) (rw (c.unwrap_or.ensures, c.is_lost_set.ensures, c.deref.ensures.value) (sym (lasts.same c.args.t (omega arith) lasts.here)))
