use Rattle.std.proofs.Common.{◌≡◌, ◌+◌, ◌-◌, ℕ, suc, arith, subst, None}
use Rattle.gs_run.specs.Nets.{net_of}
use Rattle.gs_calendar.specs.Course.{course_of}
use Rattle.gs_calendar.specs.Stale.{breach_upto}
use Rattle.gs_piece.specs.Pieces.{HasRows, IsPieceIn}
use Rattle.gs_piece.proofs.Quanta.{calm_earlier, no_rows, window_part}
use Rattle.gs_piece.proofs.piece.Piece.run.Goals as goal

pub loop-j-init : goal.loop-j-init
loop-j-init c =
    let net = net_of c.args.plan.now in
    let course = course_of c.args.script.now in
    let m = c.args.m in
    let old = c.args.self.now in
    record {
      piece = λ a b is. subst (λ t. IsPieceIn net course a b m t old) (omega arith) is;
      rows = λ a b is. no_rows net course a b m m old is;
    }

pub quantum-requires-clause-calm : goal.quantum-requires-clause-calm
quantum-requires-clause-calm c =
    let net = net_of c.args.plan.now in
    let course = course_of c.args.script.now in
    let less = c.loop-j-test.true in
    let next : ℕ = suc (c.args.m + c.loop-j.j) in
    let e : c.args.m + c.args.n ≡ next + (c.args.m + c.args.n - next) = omega (arith, less) in
    calm_earlier net course next (c.args.m + c.args.n - next) (subst (λ t. breach_upto net course t ≡ None) e c.requires.calm)

pub quantum-requires-clause-window : goal.quantum-requires-clause-window
quantum-requires-clause-window c =
    let less = c.loop-j-test.true in
    window_part (net_of c.args.plan.now) c.args.m (c.args.m + c.args.n) (suc (c.args.m + c.loop-j.j)) (omega (arith, less)) c.requires.window

pub quantum-requires-clause-piece : goal.quantum-requires-clause-piece
quantum-requires-clause-piece c =
    let r = c.requires.piece in
    (r.0, r.1, c.loop-j.invariant.piece r.0 r.1 r.2)

pub loop-j-preserved : goal.loop-j-preserved
loop-j-preserved c =
    let net = net_of c.args.plan.now in
    let course = course_of c.args.script.now in
    let m = c.args.m in
    let j = c.loop-j.j in
    let new = c.quantum.new.self in
    record {
      piece = λ a b is. subst (λ t. IsPieceIn net course a b m t new) (omega arith) (c.quantum.ensures.piece a b (c.loop-j.invariant.piece a b is));
      rows = λ a b is. subst (λ n. HasRows net course a b m n new) (omega arith) (c.quantum.ensures.rows a b (c.loop-j.invariant.piece a b is) (c.loop-j.invariant.rows a b is));
    }

pub returns-clause-piece : goal.returns-clause-piece
returns-clause-piece c = λ a b is.
    let stop = c.loop-j-test.false in
    let end = c.loop-j.auto in
    let net = net_of c.args.plan.now in
    subst (λ n. IsPieceIn net (course_of c.args.script.now) a b c.args.m (c.args.m + n) c.loop-j.self) (let e = end.j-end in omega (arith, stop, e)) (c.loop-j.invariant.piece a b is)

pub returns-clause-rows : goal.returns-clause-rows
returns-clause-rows c = λ a b is.
    let stop = c.loop-j-test.false in
    let end = c.loop-j.auto in
    let net = net_of c.args.plan.now in
    subst (λ n. HasRows net (course_of c.args.script.now) a b c.args.m n c.loop-j.self) (let e = end.j-end in omega (arith, stop, e)) (c.loop-j.invariant.rows a b is)
