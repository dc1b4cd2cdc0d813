use Rattle.std.proofs.Common.{◌≡◌, ℕ, arith, ap, sym, ◌∙◌, subst, rules}
use Rattle.std.proofs.lemmas.Result.{err_from_is_err_and}
use Rattle.gs_plan.specs.Plans.{graph_of, text_of}
use Rattle.gs_level.specs.Reports.{report_of}
use Rattle.gs_level.specs.declared.report.Report.{Report}
use Rattle.gs_run.specs.Nets.{net_of}
use Rattle.gs_run.specs.RunRows.{fast_of, rows_of}
use Rattle.gs_run.proofs.PlanNumbers.{plan_has_numbers}
use Rattle.gs_calendar.specs.Course.{course_of}
use Rattle.gs_calendar.specs.Events.{events_upto}
use Rattle.gs_calendar.specs.Scripts.{start_of}
use Rattle.gs_calendar.specs.Stale.{breach_upto}
use Rattle.gs_calendar.specs.Stops.{StopsAt}
use Rattle.gs_calendar.proofs.Fitting.{fits}
use Rattle.gs_calendar.proofs.Staleness.{script_breach_is}
use Rattle.gs_calendar.proofs.Stopping.{stops_for_memory}
use Rattle.gs_play.specs.inside.Player.{HasPlayed}
use Rattle.gs_play.proofs.playing.play_windows.Goals as goal

pub returns-in_err-window-clause-stop : goal.returns-in_err-window-clause-stop
returns-in_err-window-clause-stop g c =
    let p = c.args.plan.now in
    let s = c.args.script.now in
    let t = c.loop-player.player.quanta in
    let now = c.quanta.ensures p s t c.loop-player.invariant in
    let all = c.quanta-quanta.ensures.value in
    let test = c.loop-player-test.true in
    let given = c.window.ensures.err t (omega (arith, now, all, test)) c.loop-player.invariant in
    let stop : StopsAt (breach_upto (net_of p) (course_of s) s.quanta) c.in_err-window.field-0.0 = search rules in
    let is = script_breach_is (net_of p) (course_of s) (plan_has_numbers p) (fits p s c.requires.script c.quanta-quanta.ensures.within) in
    let answer = err_from_is_err_and c.from_residual-in_err-window.result c.from_residual-in_err-window.ensures.1 in
    rw (answer.1, answer.2) (subst (λ o. StopsAt o c.in_err-window.field-0.0) (sym is) stop)

pub returns-in_err-window-clause-few_losses : goal.returns-in_err-window-clause-few_losses
returns-in_err-window-clause-few_losses g c = λ few.
    let p = c.args.plan.now in
    let s = c.args.script.now in
    let t = c.loop-player.player.quanta in
    let now = c.quanta.ensures p s t c.loop-player.invariant in
    let all = c.quanta-quanta.ensures.value in
    let test = c.loop-player-test.true in
    let given = c.window.ensures.err t (omega (arith, now, all, test)) c.loop-player.invariant in
    let stop : StopsAt (breach_upto (net_of p) (course_of s) s.quanta) c.in_err-window.field-0.0 = search rules in
    let is = script_breach_is (net_of p) (course_of s) (plan_has_numbers p) (fits p s c.requires.script c.quanta-quanta.ensures.within) in
    let answer = err_from_is_err_and c.from_residual-in_err-window.result c.from_residual-in_err-window.ensures.1 in
    rw (answer.1, answer.2) (stops_for_memory p s _ c.requires.script c.quanta-quanta.ensures.within few (subst (λ o. StopsAt o c.in_err-window.field-0.0) (sym is) stop))

pub loop-player-preserved : goal.loop-player-preserved
loop-player-preserved g c =
    let p = c.args.plan.now in
    let s = c.args.script.now in
    let t = c.loop-player.player.quanta in
    let now = c.quanta.ensures p s t c.loop-player.invariant in
    let all = c.quanta-quanta.ensures.value in
    let test = c.loop-player-test.true in
    let given = c.window.ensures.ok t (omega (arith, now, all, test)) c.loop-player.invariant in
    let done : HasPlayed p s t c.window.new.self = search rules in
    done.at

pub returns-clause-no_breach : goal.returns-clause-no_breach
returns-clause-no_breach g c =
    let p = c.args.plan.now in
    let s = c.args.script.now in
    let t = c.loop-player.player.quanta in
    let now = c.quanta.ensures p s t c.loop-player.invariant in
    let all = c.quanta-quanta.ensures.value in
    let test = c.loop-player-test.false in
    let end = c.loop-player.invariant.end in
    let last : t ≡ s.quanta = omega (arith, now, all, test, end) in
    script_breach_is (net_of p) (course_of s) (plan_has_numbers p) (fits p s c.requires.script c.quanta-quanta.ensures.within)
    ∙ ap (breach_upto (net_of p) (course_of s)) (sym last) ∙ c.loop-player.invariant.calm

pub returns-clause-report : goal.returns-clause-report
returns-clause-report g c =
    let p = c.args.plan.now in
    let s = c.args.script.now in
    let net = net_of p in
    let course = course_of s in
    let t = c.loop-player.player.quanta in
    let now = c.quanta.ensures p s t c.loop-player.invariant in
    let all = c.quanta-quanta.ensures.value in
    let test = c.loop-player-test.false in
    let end = c.loop-player.invariant.end in
    let last : t ≡ s.quanta = omega (arith, now, all, test, end) in
    let report_at : ℕ → Report = λ u. report_of (text_of p) (graph_of p) (rows_of net (start_of net) (events_upto net course u)) (fast_of net (start_of net) (events_upto net course u)) in
    let given = c.in_ok-report.ensures.value s t c.loop-player.invariant in
    let is : c.in_ok-report.field-0 ≡ report_at t = given in
    is ∙ ap report_at last
