use Rattle.std.proofs.Common.{◌≡◌, arith, slice_index_or, subst, sym, rules}
use Rattle.gs_script.specs.declared.run.WayRun.{WayRun}
use Rattle.gs_calendar.specs.Course.{course_of}
use Rattle.gs_seat.specs.Ways.{Knows}
use Rattle.gs_seat.proofs.Known.{still_known}
use Rattle.gs_seat.proofs.ways.Ways.ask.Goals as goal

pub returns-then-quantum-known-clause-delay : goal.returns-then-quantum-known-clause-delay
returns-then-quantum-known-clause-delay c =
    let w : WayRun = c.index-known.result.now in
    let here : w ≡ slice_index_or c.args.self.now c.args.place w = search rules in
    (still_known (course_of c.args.script.now) c.args.from c.args.to c.args.quantum w (omega arith)
    (c.requires.known.0, c.requires.known.1, subst (Knows (course_of c.args.script.now) c.args.from c.args.to c.requires.known.0) (sym here) (c.requires.known.2 w))).0

pub returns-then-quantum-known-clause-lost : goal.returns-then-quantum-known-clause-lost
returns-then-quantum-known-clause-lost c =
    let w : WayRun = c.index-known.result.now in
    let here : w ≡ slice_index_or c.args.self.now c.args.place w = search rules in
    (still_known (course_of c.args.script.now) c.args.from c.args.to c.args.quantum w (omega arith)
    (c.requires.known.0, c.requires.known.1, subst (Knows (course_of c.args.script.now) c.args.from c.args.to c.requires.known.0) (sym here) (c.requires.known.2 w))).1
