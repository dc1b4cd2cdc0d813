use Rattle.gs_run.specs.Nets.{net_of}
use Rattle.gs_seat.proofs.Trying.{first_plays, first_window}
use Rattle.gs_seat.proofs.tests.first_quantum.Goals as goal

pub next_clock-clock-requires : goal.next_clock-clock-requires
next_clock-clock-requires c =
    (c.args.plan.now, c.args.script.now, c.args.v, (λ x. 0), 0, first_plays c.args.plan.now c.args.script.now c.args.v c.requires.read c.requires.node c.requires.end c.requires.age, c.requires.seat)

pub turn-requires-clause-plays : goal.turn-requires-clause-plays
turn-requires-clause-plays c = first_plays c.args.plan.now c.args.script.now c.args.v c.requires.read c.requires.node c.requires.end c.requires.age

pub turn-requires-clause-seat : goal.turn-requires-clause-seat
turn-requires-clause-seat c = (0, first_window (net_of c.args.plan.now), c.requires.seat)

pub returns : goal.returns
returns c = c.turn.ensures 0 (first_window (net_of c.args.plan.now)) c.requires.seat
