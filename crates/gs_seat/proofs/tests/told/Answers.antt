use Rattle.std.proofs.Common.{◌≤◌, arith}
use Rattle.gs_run.specs.Nets.{net_of}
use Rattle.gs_calendar.specs.Course.{course_of}
use Rattle.gs_seat.proofs.Trying.{first_window}
use Rattle.gs_seat.proofs.tests.told.Goals as goal

pub take_over-requires-clause-seat : goal.take_over-requires-clause-seat
take_over-requires-clause-seat c =
    let net = net_of c.args.plan.now in
    let course = course_of c.args.script.now in
    let quanta = c.quanta.ensures.value in
    let some = c.if-quanta-eq0.false in
    let end : 1 ≤ c.args.script.now.quanta = omega (arith, quanta, some) in
    (λ x. 0, 0, 1, end, first_window net, c.sent.ensures net course 0 (λ x. 0) 0 1 c.first_quantum-first.ensures, c.first_quantum-second.ensures)
