use Rattle.std.proofs.Common.{suc, ◌+◌, ◌<◌, ap, sym, subst, ◌∙◌, arith, length, slice_index_or, length-set}
use Rattle.gs_run.specs.Nets.{net_of}
use Rattle.gs_calendar.specs.Course.{course_of}
use Rattle.gs_seat.specs.Seats.{IsSeatIn}
use Rattle.gs_seat.specs.declared.seat.Seat.{Seat}
use Rattle.gs_piece.proofs.Turns.{midway_left, nodes_turned, sets_of}
use Rattle.gs_piece.proofs.nodes.Nodes.turn.Goals as goal

pub returns-clause-nodes : goal.returns-clause-nodes
returns-clause-nodes c = λ a b m window inside is.
    let net = net_of c.args.plan.now in
    let course = course_of c.args.script.now in
    let i = c.args.i in
    let t = c.args.t in
    let old = c.args.self.now in
    let s : Seat = c.turn.new.self in
    let seats = is.seats in
    let here : i < length old.seats.items = omega (arith, inside, seats) in
    let begun : IsSeatIn net course (a + i) m t c.index_mut.result.now =
    subst (IsSeatIn net course (a + i) m t) (sym c.index_mut.ensures.value)
    (subst (λ n. IsSeatIn net course (a + i) m n (slice_index_or old.seats.items i c.index_mut.result.now)) (midway_left t i i (omega arith)) (is.seat i c.index_mut.result.now inside)) in
    nodes_turned net course a b m t i old c.look.new.self s inside
    (sets_of i s old c.look.new.self here c.look.ensures.same.0 (ap (λ (v : _). v.items) c.look.ensures.same.1) c.look.ensures.steps c.look.ensures.wake c.look.ensures.fast c.look.ensures.sends)
    (subst (λ v. IsSeatIn net course (v + i) m (suc t) s) is.first
    (c.turn.ensures m window (subst (λ v. IsSeatIn net course (v + i) m t c.index_mut.result.now) (sym is.first) begun))) is

pub returns-clause-count : goal.returns-clause-count
returns-clause-count c =
    ap length (c.look.ensures.wake c.turn.new.self) ∙ length-set c.args.self.now.wake.items c.args.i _
