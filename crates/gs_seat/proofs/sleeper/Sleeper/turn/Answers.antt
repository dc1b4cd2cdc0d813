use Rattle.std.proofs.Common.{◌+◌, ◌∙◌, arith}
use Rattle.gs_run.specs.Nets.{net_of}
use Rattle.gs_calendar.specs.Course.{course_of}
use Rattle.gs_seat.proofs.Seating.{begun_few, gives_as, has_heard, known_on, may_hear, may_tick, sends_none, settled, ticked_before}
use Rattle.gs_seat.proofs.sleeper.Sleeper.turn.Goals as goal

pub reading_at-reading-requires-clause-room : goal.reading_at-reading-requires-clause-room
reading_at-reading-requires-clause-room c =
    begun_few (net_of c.args.plan.now) (course_of c.args.script.now) c.args.v c.args.t (c.args.t + 1) _ c.args.self.now (omega arith) c.requires.turn c.requires.asleep

pub hear_due-requires : goal.hear_due-requires
hear_due-requires c =
    may_hear (net_of c.args.plan.now) (course_of c.args.script.now) c.args.v c.args.t (c.args.t + 1) c.reading_at-reading.result c.args.waiting.now c.args.self.now (omega arith)
    c.reading_at-reading.ensures c.requires.turn c.requires.asleep

pub tick_if_due-given-requires-clause-ticked : goal.tick_if_due-given-requires-clause-ticked
tick_if_due-given-requires-clause-ticked c =
    let net = net_of c.args.plan.now in
    let course = course_of c.args.script.now in
    let r = c.reading_at-reading.result in
    ticked_before net course c.args.v c.args.t (c.args.t + 1) r c.args.waiting.now c.hear_due.new.self c.requires.node
    (has_heard net course c.args.v c.args.t (c.args.t + 1) r c.args.waiting.now c.args.self.now c.hear_due.new.self (omega arith) c.reading_at-reading.ensures c.requires.turn c.requires.asleep
    c.hear_due.ensures.part c.hear_due.ensures.same)

pub tick_if_due-given-requires-clause-may : goal.tick_if_due-given-requires-clause-may
tick_if_due-given-requires-clause-may c =
    let net = net_of c.args.plan.now in
    let course = course_of c.args.script.now in
    let r = c.reading_at-reading.result in
    may_tick net course c.args.v c.args.t (c.args.t + 1) r c.args.waiting.now c.hear_due.new.self
    (has_heard net course c.args.v c.args.t (c.args.t + 1) r c.args.waiting.now c.args.self.now c.hear_due.new.self (omega arith) c.reading_at-reading.ensures c.requires.turn c.requires.asleep
    c.hear_due.ensures.part c.hear_due.ensures.same)

pub settle-requires-clause-inc : goal.settle-requires-clause-inc
settle-requires-clause-inc c =
    known_on ((course_of c.args.script.now).inc c.args.v) c.args.t (c.args.t + 1) c.args.self.now.inc c.tick_if_due-given.new.self.inc (omega arith)
    (c.tick_if_due-given.ensures.same.inc ∙ c.hear_due.ensures.same.inc) c.requires.asleep.inc

pub settle-requires-clause-gap : goal.settle-requires-clause-gap
settle-requires-clause-gap c =
    known_on ((course_of c.args.script.now).gap c.args.v) c.args.t (c.args.t + 1) c.args.self.now.gap c.tick_if_due-given.new.self.gap (omega arith)
    (c.tick_if_due-given.ensures.same.gap ∙ c.hear_due.ensures.same.gap) c.requires.asleep.gap

pub returns-clause-asleep : goal.returns-clause-asleep
returns-clause-asleep c =
    let net = net_of c.args.plan.now in
    let course = course_of c.args.script.now in
    let r = c.reading_at-reading.result in
    settled net course c.args.v c.args.t (c.args.t + 1) r c.args.waiting.now c.hear_due.new.self c.tick_if_due-given.new.self c.settle.new.self
    (has_heard net course c.args.v c.args.t (c.args.t + 1) r c.args.waiting.now c.args.self.now c.hear_due.new.self (omega arith) c.reading_at-reading.ensures c.requires.turn c.requires.asleep
    c.hear_due.ensures.part c.hear_due.ensures.same)
    (record { ticked = c.tick_if_due-given.ensures.part; set = c.tick_if_due-given.ensures.same; inc = c.settle.ensures.inc; gap = c.settle.ensures.gap; same = c.settle.ensures.same })

pub returns-clause-given : goal.returns-clause-given
returns-clause-given c =
    let net = net_of c.args.plan.now in
    let course = course_of c.args.script.now in
    let r = c.reading_at-reading.result in
    gives_as net course c.args.v c.args.t (c.args.t + 1) r c.args.waiting.now c.hear_due.new.self c.tick_if_due-given.result
    (has_heard net course c.args.v c.args.t (c.args.t + 1) r c.args.waiting.now c.args.self.now c.hear_due.new.self (omega arith) c.reading_at-reading.ensures c.requires.turn c.requires.asleep
    c.hear_due.ensures.part c.hear_due.ensures.same)
    c.tick_if_due-given.ensures.some

pub returns-clause-none : goal.returns-clause-none
returns-clause-none c =
    let net = net_of c.args.plan.now in
    let course = course_of c.args.script.now in
    let r = c.reading_at-reading.result in
    sends_none net course c.args.v c.args.t (c.args.t + 1) r c.args.waiting.now c.hear_due.new.self c.tick_if_due-given.result
    (has_heard net course c.args.v c.args.t (c.args.t + 1) r c.args.waiting.now c.args.self.now c.hear_due.new.self (omega arith) c.reading_at-reading.ensures c.requires.turn c.requires.asleep
    c.hear_due.ensures.part c.hear_due.ensures.same)
    c.tick_if_due-given.ensures.none
