use Rattle.std.proofs.Common.{◌≡◌, suc, ◌+◌, arith, subst, rules}
use Rattle.gs_run.specs.Nets.{net_of}
use Rattle.gs_calendar.specs.Course.{course_of}
use Rattle.gs_play.specs.inside.Totals.{AreTotals}
use Rattle.gs_play.proofs.Moving.{calm_earlier}
use Rattle.gs_play.proofs.totals.Totals.add_window.Goals as goal

pub add_row-requires-clause-rows : goal.add_row-requires-clause-rows
add_row-requires-clause-rows c =
    let r = c.requires.rows in
    let less = c.loop-j-test.true in
    (r.0, r.1, r.2, c.args.n, less, calm_earlier c.args.plan.now r.0 r.2 c.args.n c.loop-j.j (omega (arith, less)) r.3, r.4, c.loop-j.invariant r.0 r.1 r.2 r.3 r.4 r.5)

pub loop-j-preserved : goal.loop-j-preserved
loop-j-preserved c = λ s size m calm have are.
    let course = course_of s in
    let less = c.loop-j-test.true in
    let given = c.add_row.ensures s size m c.args.n less (calm_earlier c.args.plan.now s m c.args.n c.loop-j.j (omega (arith, less)) calm) have (c.loop-j.invariant s size m calm have are) in
    let done : AreTotals c.args.plan.now course (suc (m + c.loop-j.j)) c.add_row.new.self = search rules in
    subst (λ t. AreTotals c.args.plan.now course t c.add_row.new.self) (omega arith) done

pub returns : goal.returns
returns c = λ s size m calm have are.
    let stop = c.loop-j-test.false in
    let last = c.loop-j.auto.j-end in
    subst (λ t. AreTotals c.args.plan.now (course_of s) t c.loop-j.self) (omega (arith, stop, last)) (c.loop-j.invariant s size m calm have are)
