use Rattle.std.proofs.Common.{arith}
use Rattle.gs_clock.proofs.Places.{last_comes, next_comes}
use Rattle.gs_clock.proofs.in_memory.place_after.Goals as goal

pub returns-then-at-readings-clause-rest : goal.returns-then-at-readings-clause-rest
returns-then-at-readings-clause-rest c = next_comes c.args.at c.args.readings.now (omega (arith, c.if-at-readings.true))

pub returns-else-at-readings-clause-rest : goal.returns-else-at-readings-clause-rest
returns-else-at-readings-clause-rest c = last_comes c.args.at c.args.readings.now c.requires (omega (arith, c.if-at-readings.false))
