use Rattle.std.proofs.Common.{◌+◌, ◌∙◌, arith}
use Rattle.gs_run.specs.Nets.{net_of}
use Rattle.gs_calendar.specs.Course.{course_of}
use Rattle.gs_seat.proofs.Looking.{clock_read, few_quanta, next_readable}
use Rattle.gs_seat.proofs.seat.Seat.next_clock.Goals as goal

pub overflow_add-t : goal.overflow_add-t
overflow_add-t c =
    let seat = c.requires in
    let few = few_quanta seat.0 seat.1 seat.2 c.args.t seat.5 in
    omega (arith, few)

pub clock_at-requires-clause-at : goal.clock_at-requires-clause-at
clock_at-requires-clause-at c =
    let seat = c.requires in
    (next_readable seat.0 seat.1 seat.2 c.args.t (c.args.t + 1) c.args.self.now.node (omega arith) seat.5 seat.6.node).at

pub clock_at-requires-clause-last : goal.clock_at-requires-clause-last
clock_at-requires-clause-last c =
    let seat = c.requires in
    (next_readable seat.0 seat.1 seat.2 c.args.t (c.args.t + 1) c.args.self.now.node (omega arith) seat.5 seat.6.node).last

pub clock_at-requires-clause-room : goal.clock_at-requires-clause-room
clock_at-requires-clause-room c =
    let seat = c.requires in
    (next_readable seat.0 seat.1 seat.2 c.args.t (c.args.t + 1) c.args.self.now.node (omega arith) seat.5 seat.6.node).few

pub returns : goal.returns
returns c = λ p s v by m plays is. c.clock_at.ensures ∙ clock_read (net_of p) (course_of s) v c.args.t (c.args.t + 1) c.args.self.now.node (omega arith) plays.node is.node
