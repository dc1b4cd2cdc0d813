use Rattle.std.proofs.Common.{◌≡◌, ◌+◌, ap, sym, subst, refl, ◌∙◌, arith, length, length-set, slice_index_or}
use Rattle.gs_seat.specs.Seats.{IsSeatAt}
use Rattle.gs_seat.specs.declared.seat.Seat.{Seat}
use Rattle.gs_piece.proofs.Turns.{ending_left, nodes_rested, sets_of}
use Rattle.gs_piece.proofs.nodes.Nodes.rest.Goals as goal

pub returns-clause-rests : goal.returns-clause-rests
returns-clause-rests c = λ net course a b m t h is.
    let old = c.args.self.now in
    let i = c.args.i in
    let s : Seat = c.end_window.new.self in
    let seats = is.seats in
    let before : IsSeatAt net course (a + i) (λ x. t) m t c.index_mut.result.now = subst (IsSeatAt net course (a + i) (λ x. t) m t) (sym c.index_mut.ensures.value)
    (subst (λ n. IsSeatAt net course (a + i) (λ x. t) n t (slice_index_or old.seats.items i c.index_mut.result.now)) (ending_left m t i i (omega arith)) (is.seat i c.index_mut.result.now h)) in
    nodes_rested net course a b m t i old c.look.new.self s h
    (sets_of i s old c.look.new.self (omega (arith, h, seats)) c.look.ensures.same.0 (ap (λ (v : _). v.items) c.look.ensures.same.1) c.look.ensures.steps c.look.ensures.wake c.look.ensures.fast c.look.ensures.sends)
    (c.end_window.ensures net course (a + i) (λ x. t) m t before (λ x has. refl)) is

pub returns-clause-count : goal.returns-clause-count
returns-clause-count c =
    ap length (c.look.ensures.sends c.end_window.new.self) ∙ length-set c.args.self.now.sends.items c.args.i _
