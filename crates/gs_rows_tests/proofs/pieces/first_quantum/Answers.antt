use Rattle.std.proofs.Common.{◌≡◌, ◌+◌, ℕ, suc, arith, refl, subst}
use Rattle.gs_run.specs.Nets.{net_of}
use Rattle.gs_calendar.specs.Course.{course_of}
use Rattle.gs_seat.proofs.Trying.{first_plays}
use Rattle.gs_piece.specs.Nodes.{none_handed}
use Rattle.gs_piece.specs.Pieces.{HasRows, IsPieceIn}
use Rattle.gs_rows_tests.proofs.pieces.first_quantum.Goals as goal

pub end_window-requires : goal.end_window-requires
end_window-requires c =
    (net_of c.args.plan.now, course_of c.args.script.now, none_handed 0, c.args.v, c.args.v + 1, 0, 0, (λ v x low high near. refl), c.in_ok-piece.ensures)

pub run-requires-clause-calm : goal.run-requires-clause-calm
run-requires-clause-calm c = (first_plays c.args.plan.now c.args.script.now c.args.v c.requires.read c.requires.node c.requires.end c.requires.age).calm

pub run-requires-clause-piece : goal.run-requires-clause-piece
run-requires-clause-piece c =
    (c.args.v, c.args.v + 1, c.end_window.ensures (net_of c.args.plan.now) (course_of c.args.script.now) (none_handed 0) c.args.v (c.args.v + 1) 0 0 (λ v x low high near. refl) c.in_ok-piece.ensures)

pub returns-clause-piece : goal.returns-clause-piece
returns-clause-piece c =
    let net = net_of c.args.plan.now in
    let course = course_of c.args.script.now in
    let end : c.args.v + 1 ≡ suc c.args.v = omega arith in
    let begun = c.end_window.ensures net course (none_handed 0) c.args.v (c.args.v + 1) 0 0 (λ v x low high near. refl) c.in_ok-piece.ensures in
    subst (λ (b : ℕ). IsPieceIn net course c.args.v b 0 1 c.run.new.self) end (c.run.ensures.piece c.args.v (c.args.v + 1) begun)

pub returns-clause-rows : goal.returns-clause-rows
returns-clause-rows c =
    let net = net_of c.args.plan.now in
    let course = course_of c.args.script.now in
    let end : c.args.v + 1 ≡ suc c.args.v = omega arith in
    let begun = c.end_window.ensures net course (none_handed 0) c.args.v (c.args.v + 1) 0 0 (λ v x low high near. refl) c.in_ok-piece.ensures in
    subst (λ (b : ℕ). HasRows net course c.args.v b 0 1 c.run.new.self) end (c.run.ensures.rows c.args.v (c.args.v + 1) begun)
