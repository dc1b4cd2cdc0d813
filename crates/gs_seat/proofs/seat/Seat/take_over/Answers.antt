use Rattle.std.proofs.Common.{◌≡◌, ◌+◌, arith, subst, List, [], drop}
use Rattle.std.proofs.Math.ListN.{drop_of_length-le}
use Rattle.gs_run.specs.Nets.{net_of}
use Rattle.gs_run.specs.World.{Sent}
use Rattle.gs_calendar.specs.Course.{course_of}
use Rattle.gs_seat.proofs.HandOver.{IsHandingOver, hands_at, hands_first, hands_last, hands_more, hands_next}
use Rattle.gs_seat.proofs.seat.Seat.take_over.Goals as goal

pub loop-beacon-init : goal.loop-beacon-init
loop-beacon-init c = λ by m t window sent is. hands_first (net_of c.args.plan.now) (course_of c.args.script.now) c.args.from c.args.to m t by c.args.sent.now c.args.self.now sent is

pub receive-requires-clause-end : goal.receive-requires-clause-end
receive-requires-clause-end c =
    let seat = c.requires.seat in
    let loop = c.loop-beacon in
    let left = hands_at (net_of c.args.plan.now) (course_of c.args.script.now) c.args.from c.args.to seat.1 seat.2 loop.beacon-index seat.0 c.args.sent.now c.beacon-item.result loop.self c.loop-beacon-test.true c.beacon-item.is
    (loop.invariant seat.0 seat.1 seat.2 seat.4 seat.5 seat.6) in
    let by_then = left.sent.0.was.by in
    let end = seat.3 in
    omega (arith, by_then, end)

pub receive-requires-clause-seat : goal.receive-requires-clause-seat
receive-requires-clause-seat c =
    let net = net_of c.args.plan.now in
    let course = course_of c.args.script.now in
    let seat = c.requires.seat in
    let loop = c.loop-beacon in
    let left = hands_at net course c.args.from c.args.to seat.1 seat.2 loop.beacon-index seat.0 c.args.sent.now c.beacon-item.result loop.self c.loop-beacon-test.true c.beacon-item.is
    (loop.invariant seat.0 seat.1 seat.2 seat.4 seat.5 seat.6) in
    (_, seat.1, seat.2, seat.4, hands_next net course c.args.from c.args.to seat.1 seat.2 seat.0 c.beacon-item.result (drop (loop.beacon-index + 1) c.args.sent.now) loop.self left, left.seat)

pub loop-beacon-preserved : goal.loop-beacon-preserved
loop-beacon-preserved c = λ by m t window sent is.
    let net = net_of c.args.plan.now in
    let course = course_of c.args.script.now in
    let loop = c.loop-beacon in
    let rest : List Sent = drop (loop.beacon-index + 1) c.args.sent.now in
    let left = hands_at net course c.args.from c.args.to m t loop.beacon-index by c.args.sent.now c.beacon-item.result loop.self c.loop-beacon-test.true c.beacon-item.is (loop.invariant by m t window sent is) in
    let next = hands_next net course c.args.from c.args.to m t by c.beacon-item.result rest loop.self left in
    hands_more net course c.args.from c.args.to m t by c.beacon-item.result rest loop.self c.receive.new.self left (c.in_ok-receive.ensures _ m t window next left.seat)

pub returns : goal.returns
returns c = λ by m t end window sent is.
    let net = net_of c.args.plan.now in
    let course = course_of c.args.script.now in
    let loop = c.loop-beacon in
    let none : drop loop.beacon-index c.args.sent.now ≡ [] = drop_of_length-le c.args.sent.now (let past = c.loop-beacon-test.false in omega (arith, past)) in
    hands_last net course c.args.from c.args.to m t by loop.self
    (subst (λ (xs : List Sent). IsHandingOver net course c.args.from c.args.to by m t xs loop.self) none (loop.invariant by m t window sent is))
