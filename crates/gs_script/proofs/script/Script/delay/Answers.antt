use Rattle.std.proofs.Common.{arith, sym}
use Rattle.gs_script.proofs.script.Script.delay.Goals as goal

pub returns-clause-value : goal.returns-clause-value
returns-clause-value c = (let run = c.delay_run.ensures.value in sym (run.same c.args.t (omega arith) run.here))
