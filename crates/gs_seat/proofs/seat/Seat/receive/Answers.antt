use Rattle.std.proofs.Common.{◌≡◌, ◌∙◌, ℕ, arith, ap, sym, subst, true, false, Some}
use Rattle.gs_topo.specs.Graph.{Graph}
use Rattle.gs_run.specs.Net.{place_of}
use Rattle.gs_run.specs.Nets.{net_of}
use Rattle.gs_run.proofs.PlanNumbers.{plan_has_numbers}
use Rattle.gs_calendar.specs.Course.{course_of}
use Rattle.gs_calendar.specs.Transits.{Has}
use Rattle.gs_calendar.proofs.Arrivals.{place_is_inside}
use Rattle.gs_calendar.proofs.OnTheWay.{is_neighbour, neighbour_is}
use Rattle.gs_seat.specs.Letters.{Letter, key_of, keys, put_letter}
use Rattle.gs_seat.specs.Held.{handed}
use Rattle.gs_seat.specs.Ways.{HoldsWays}
use Rattle.gs_seat.proofs.Reading.{course_is, due_soon, few_places, has_place, letter_is, place_read, said_near, said_receiver}
use Rattle.gs_seat.proofs.Known.{IsAsked, ways_asked}
use Rattle.gs_seat.proofs.Windows.{letter_is_new, letter_of, seat_lost, seat_put}
use Rattle.gs_seat.proofs.seat.Seat.receive.Goals as goal

pub ask-way-requires-clause-receiver : goal.ask-way-requires-clause-receiver
ask-way-requires-clause-receiver c = said_receiver c.args.plan.now c.args.script.now c.args.from c.args.to c.requires.read c.requires.neighbours

pub ask-way-requires-clause-neighbours : goal.ask-way-requires-clause-neighbours
ask-way-requires-clause-neighbours c = said_near c.args.plan.now c.args.script.now c.args.from c.args.to c.requires.read c.requires.neighbours

pub ask-way-requires-clause-place : goal.ask-way-requires-clause-place
ask-way-requires-clause-place c =
    let net = net_of c.args.plan.now in
    let at : place_of net c.args.to c.args.from ≡ Some c.in-Some.place =
    place_read c.args.plan.now c.args.to c.args.from c.topo.result.now c.neighbours.result.now c.place.result c.topo.ensures c.neighbours.ensures c.place.ensures ∙ c.in-Some.is in
    let inside = (place_is_inside net c.args.to c.args.from c.in-Some.place at).0 in
    let count = c.requires.seat.5.ways.count in
    omega (arith, inside, count)

pub ask-way-requires-clause-known : goal.ask-way-requires-clause-known
ask-way-requires-clause-known c =
    let net = net_of c.args.plan.now in
    let seat = c.requires.seat in
    let at : place_of net c.args.to c.args.from ≡ Some c.in-Some.place =
    place_read c.args.plan.now c.args.to c.args.from c.topo.result.now c.neighbours.result.now c.place.result c.topo.ensures c.neighbours.ensures c.place.ensures ∙ c.in-Some.is in
    let adjacent = (neighbour_is net c.args.from c.args.to c.requires.neighbours).1 in
    let among : Has c.args.from _ = is_neighbour net c.args.to c.args.from c.requires.sender ((plan_has_numbers c.args.plan.now).both_ways c.args.from c.args.to adjacent) in
    let after = seat.4.after in
    let quantum = c.quantum-quantum.ensures in
    (seat.0 c.args.from, omega (arith, after, quantum), λ d. seat.5.ways.way c.args.from c.in-Some.place d among at)

pub returns-then-way : goal.returns-then-way
returns-then-way c = λ by m t window next is.
    let net = net_of c.args.plan.now in
    let course = course_of c.args.script.now in
    let lost = c.ask-way.ensures.lost in
    let gone : course.lost c.args.from c.args.to c.args.sent.now.quantum ≡ true =
    ap (course.lost c.args.from c.args.to) (sym c.quantum-quantum.ensures) ∙ lost.same c.quantum-quantum.result (omega arith) lost.here ∙ c.if-way.true in
    let place : place_of net c.args.to c.args.from ≡ Some c.in-Some.place =
    place_read c.args.plan.now c.args.to c.args.from c.topo.result.now c.neighbours.result.now c.place.result c.topo.ensures c.neighbours.ensures c.place.ensures ∙ c.in-Some.is in
    let asked : IsAsked c.in-Some.place c.ask-way.result c.args.self.now.ways c.ask-way.new.self = record { count = c.ask-way.ensures.count; own = c.ask-way.ensures.own; others = c.ask-way.ensures.others } in
    let ways : HoldsWays net course c.args.to (handed by c.args.from c.args.sent.now.quantum) c.ask-way.new.self =
    subst (λ (q : ℕ). HoldsWays net course c.args.to (handed by c.args.from q) c.ask-way.new.self) c.quantum-quantum.ensures
    (ways_asked net course c.args.from c.args.to c.in-Some.place c.quantum-quantum.result by c.ask-way.result c.args.self.now.ways c.ask-way.new.self place c.ask-way.ensures.delay c.ask-way.ensures.lost asked is.ways) in
    seat_lost net course c.args.from c.args.to m t by c.args.sent.now c.args.self.now c.ask-way.new.self next gone ways is

pub neighbours-requires : goal.neighbours-requires
neighbours-requires c =
    let nodes = ap (λ (g : Graph). g.nodes) c.topo.ensures in
    let inside = (neighbour_is (net_of c.args.plan.now) c.args.from c.args.to c.requires.neighbours).0 in
    omega (arith, nodes, inside)

pub unreachable-requires : goal.unreachable-requires
unreachable-requires c =
    has_place c.args.plan.now c.args.from c.args.to c.requires.sender c.requires.neighbours
    (place_read c.args.plan.now c.args.to c.args.from c.topo.result.now c.neighbours.result.now c.place.result c.topo.ensures c.neighbours.ensures c.place.ensures ∙ c.in_default.is)

pub overflow_add-due : goal.overflow_add-due
overflow_add-due c =
    let delay = c.ask-way.ensures.delay in
    let quantum = c.quantum-quantum.ensures in
    let end = c.requires.end in
    let soon = due_soon c.args.plan.now c.args.script.now c.args.from c.args.to c.quantum-quantum.result c.ask-way.result.delay c.requires.read c.requires.neighbours
    (omega (arith, quantum, end)) (delay.same c.quantum-quantum.result (omega arith) delay.here) in
    omega (arith, soon)

pub overflow_cast-place : goal.overflow_cast-place
overflow_cast-place c =
    let few = few_places c.args.plan.now c.args.to c.args.from c.in-Some.place
    (place_read c.args.plan.now c.args.to c.args.from c.topo.result.now c.neighbours.result.now c.place.result c.topo.ensures c.neighbours.ensures c.place.ensures ∙ c.in-Some.is) in
    omega (arith, few)

pub put-requires-clause-new : goal.put-requires-clause-new
put-requires-clause-new c = λ has.
    let course = course_of c.args.script.now in
    let seat = c.requires.seat in
    let delay = c.ask-way.ensures.delay in
    let is = letter_is course c.args.from c.args.to c.in-Some.place c.quantum-quantum.result c.ask-way.result.delay c.args.sent.now c.new.result c.quantum-quantum.ensures
    (delay.same c.quantum-quantum.result (omega arith) delay.here) c.new.ensures in
    letter_is_new (net_of c.args.plan.now) course c.args.from c.args.to seat.1 seat.2 c.in-Some.place seat.0 c.args.sent.now c.args.self.now c.requires.sender seat.4 seat.5
    (subst (λ (b : Letter). Has (key_of b) (keys c.args.self.now.waiting)) is has)

pub returns : goal.returns
returns c = λ by m t window next is.
    let net = net_of c.args.plan.now in
    let course = course_of c.args.script.now in
    let lost = c.ask-way.ensures.lost in
    let delay = c.ask-way.ensures.delay in
    let kept : course.lost c.args.from c.args.to c.args.sent.now.quantum ≡ false =
    ap (course.lost c.args.from c.args.to) (sym c.quantum-quantum.ensures) ∙ lost.same c.quantum-quantum.result (omega arith) lost.here ∙ c.if-way.false in
    let place : place_of net c.args.to c.args.from ≡ Some c.in-Some.place =
    place_read c.args.plan.now c.args.to c.args.from c.topo.result.now c.neighbours.result.now c.place.result c.topo.ensures c.neighbours.ensures c.place.ensures ∙ c.in-Some.is in
    let asked : IsAsked c.in-Some.place c.ask-way.result c.args.self.now.ways c.ask-way.new.self = record { count = c.ask-way.ensures.count; own = c.ask-way.ensures.own; others = c.ask-way.ensures.others } in
    let ways : HoldsWays net course c.args.to (handed by c.args.from c.args.sent.now.quantum) c.ask-way.new.self =
    subst (λ (q : ℕ). HoldsWays net course c.args.to (handed by c.args.from q) c.ask-way.new.self) c.quantum-quantum.ensures
    (ways_asked net course c.args.from c.args.to c.in-Some.place c.quantum-quantum.result by c.ask-way.result c.args.self.now.ways c.ask-way.new.self place c.ask-way.ensures.delay c.ask-way.ensures.lost asked is.ways) in
    let letter = letter_is course c.args.from c.args.to c.in-Some.place c.quantum-quantum.result c.ask-way.result.delay c.args.sent.now c.new.result c.quantum-quantum.ensures
    (delay.same c.quantum-quantum.result (omega arith) delay.here) c.new.ensures in
    let put : c.put.new.self ≡ put_letter (letter_of course c.args.from c.args.to c.in-Some.place c.args.sent.now) c.args.self.now.waiting =
    c.in_ok-put.ensures.ok ∙ ap (λ (b : Letter). put_letter b c.args.self.now.waiting) letter in
    seat_put net course c.args.from c.args.to m t c.in-Some.place by c.args.sent.now c.args.self.now _ c.ask-way.new.self (plan_has_numbers c.args.plan.now) (course_is c.args.plan.now c.args.script.now c.requires.read)
    c.requires.sender c.requires.neighbours window next kept place (λ i. record { node = c.args.self.now.node; waiting = put i; ways = c.ask-way.new.self; sent = c.args.self.now.sent }) ways is
