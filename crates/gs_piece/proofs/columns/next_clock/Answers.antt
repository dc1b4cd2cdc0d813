use Rattle.std.proofs.Common.{◌+◌, sym, subst}
use Rattle.gs_run.specs.Nets.{net_of}
use Rattle.gs_calendar.specs.Course.{course_of}
use Rattle.gs_seat.specs.Seats.{IsSeatAt}
use Rattle.gs_piece.proofs.columns.next_clock.Goals as goal

pub next_clock-requires : goal.next_clock-requires
next_clock-requires c =
    let i = c.args.i in
    let seat = c.index-seats-i.result in
    let r = c.requires.read in
    let is = r.5 i seat c.requires.inside in
    (r.0, r.1, r.3 + i, r.2 (r.3 + i), r.4, is.0, subst (IsSeatAt (net_of r.0) (course_of r.1) (r.3 + i) (r.2 (r.3 + i)) r.4 c.args.t) (sym c.index-seats-i.is) is.1)

pub returns : goal.returns
returns c = λ p s by a m are.
    let i = c.args.i in
    let seat = c.index-seats-i.result in
    let is = are i seat c.requires.inside in
    c.next_clock.ensures p s (a + i) (by (a + i)) m is.0
    (subst (IsSeatAt (net_of p) (course_of s) (a + i) (by (a + i)) m c.args.t) (sym c.index-seats-i.is) is.1)
