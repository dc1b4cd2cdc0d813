use Rattle.std.proofs.Common.{arith}
use Rattle.gs_respond.proofs.TimeBytes.{answers_tell}
use Rattle.gs_respond.proofs.time_format.told.Goals as goal

pub returns-clause-tells : goal.returns-clause-tells
returns-clause-tells c =
    answers_tell c.args.node c.args.id c.args.clock c.spelled.result (omega (arith, c.ranges.node)) (omega (arith, c.ranges.id)) (omega (arith, c.ranges.clock)) c.spelled.ensures
