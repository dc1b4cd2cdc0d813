use Rattle.std.proofs.Common.{◌∙◌, sym, arith}
use Rattle.gs_plan.proofs.Telling.{text_accepted}
use Rattle.gs_script.proofs.Delays.{delay_small}
use Rattle.gs_script.proofs.checks.delay_in.Goals as goal

pub overflow_cast-result : goal.overflow_cast-result
overflow_cast-result c =
    let p = c.args.plan.now in
    let small = delay_small p.text c.args.v c.args.w c.args.delay (text_accepted p.text p.accepted) (sym c.is_delay_outside.ensures ∙ c.if-is_delay_outside.false) in
    omega (arith, small)
