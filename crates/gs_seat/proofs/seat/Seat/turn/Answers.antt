use Rattle.std.proofs.Common.{◌+◌, arith, refl}
use Rattle.gs_run.specs.Nets.{net_of}
use Rattle.gs_calendar.specs.Course.{course_of}
use Rattle.gs_seat.proofs.Reading.{has_room, turn_may}
use Rattle.gs_seat.proofs.Windows.{seat_begun, seat_turned, sent_none, sent_pushed}
use Rattle.gs_seat.proofs.seat.Seat.turn.Goals as goal

pub turn-requires-clause-turn : goal.turn-requires-clause-turn
turn-requires-clause-turn c = turn_may c.args.plan.now c.args.script.now c.args.v c.args.t c.args.self.now c.requires.plays c.requires.seat

pub push_reserved-requires : goal.push_reserved-requires
push_reserved-requires c =
    let room = has_room (net_of c.args.plan.now) (course_of c.args.script.now) c.args.v c.args.t c.args.self.now c.requires.seat in
    let sent = c.args.self.now.sent in
    omega (arith, room, sent)

pub returns-in-Some : goal.returns-in-Some
returns-in-Some c = λ m window is.
    let net = net_of c.args.plan.now in
    let course = course_of c.args.script.now in
    let capacity = c.push_reserved.ensures.capacity in
    let room = is.room in
    seat_turned net course c.args.v m c.args.t (λ x. m) c.args.self.now _ is c.in-Some.ensures.asleep c.in-Some.ensures.waiting refl
    (sent_pushed net course c.args.v m c.args.t (c.args.t + 1) c.args.self.now.sent.items c.push_reserved.new.self.items c.new.result c.in-Some.beacon c.requires.plays.node (seat_begun net course c.args.v m c.args.t (λ x. m) c.args.self.now is) (omega arith)
    c.new.ensures c.push_reserved.ensures.items c.in-Some.ensures.given is.sent)
    (omega (arith, capacity, room))

pub returns-in_default : goal.returns-in_default
returns-in_default c = λ m window is.
    let net = net_of c.args.plan.now in
    let course = course_of c.args.script.now in
    seat_turned net course c.args.v m c.args.t (λ x. m) c.args.self.now _ is c.in_default.ensures.asleep c.in_default.ensures.waiting refl
    (sent_none net course c.args.v m c.args.t c.args.self.now.sent.items c.requires.plays.node c.in_default.ensures.none is.sent) is.room
