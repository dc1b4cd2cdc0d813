use Rattle.std.proofs.Common.{arith}
use Rattle.gs_play.proofs.Windows.{longest_is}
use Rattle.gs_play.proofs.window.longest_window.Goals as goal

pub returns-clause-window : goal.returns-clause-window
returns-clause-window c = λ m n le.
    let least = c.least_delay.ensures in
    let more = c.max.ensures in
    let result = c.min.ensures in
    longest_is c.args.plan.now m n (omega (arith, le, least, more, result))
