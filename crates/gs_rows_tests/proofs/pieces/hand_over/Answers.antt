use Rattle.std.proofs.Common.{◌≤◌, arith}
use Rattle.gs_run.specs.Nets.{net_of}
use Rattle.gs_calendar.specs.Course.{course_of}
use Rattle.gs_seat.proofs.Trying.{first_window}
use Rattle.gs_piece.specs.Nodes.{handed_to, none_handed}
use Rattle.gs_rows_tests.proofs.pieces.hand_over.Goals as goal

pub take_over-requires-clause-piece : goal.take_over-requires-clause-piece
take_over-requires-clause-piece c =
    let net = net_of c.args.plan.now in
    let course = course_of c.args.script.now in
    let quanta = c.quanta.ensures.value in
    let some = c.if-quanta-eq0.false in
    let end : 1 ≤ c.args.script.now.quanta = omega (arith, quanta, some) in
    (none_handed 0, 1, 2, 0, 1, end, first_window net, omega arith, omega arith, c.sent.ensures net course (none_handed 0) 0 1 0 1 (omega arith) (omega arith) c.in-Ok.ensures.piece, c.in-Ok-first_quantum.ensures.piece)

pub can_go_on-requires : goal.can_go_on-requires
can_go_on-requires c =
    let net = net_of c.args.plan.now in
    let course = course_of c.args.script.now in
    let quanta = c.quanta.ensures.value in
    let some = c.if-quanta-eq0.false in
    let end : 1 ≤ c.args.script.now.quanta = omega (arith, quanta, some) in
    let sent = c.sent.ensures net course (none_handed 0) 0 1 0 1 (omega arith) (omega arith) c.in-Ok.ensures.piece in
    (course, handed_to (none_handed 0) 1 0 1, 1, 2, c.in-Ok-take_over.ensures (none_handed 0) 1 2 0 1 end (first_window net) (omega arith) (omega arith) sent c.in-Ok-first_quantum.ensures.piece)
