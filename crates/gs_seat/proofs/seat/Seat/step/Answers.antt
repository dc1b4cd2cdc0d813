use Rattle.gs_seat.proofs.Looking.{step_read}
use Rattle.gs_seat.proofs.seat.Seat.step.Goals as goal

pub returns-clause-slow : goal.returns-clause-slow
returns-clause-slow c = λ p s v by m t plays slow is. step_read p s v t c.args.self.now.node plays is.node slow
