use Rattle.std.proofs.Common.{◌≡◌, None, sym, subst}
use Rattle.gs_plan.specs.Plans.{graph_of, text_of}
use Rattle.gs_level.specs.declared.report.Report.{Report}
use Rattle.gs_world.specs.RunReports.{IsWithinBounds}
use Rattle.gs_calendar.specs.Scripts.{breach_of_script}
use Rattle.gs_play.specs.Scripts.{report_of_script}
use Rattle.gs_play.proofs.Keeping.{scripts_keep}
use Rattle.gs_play.proofs.playing.play.Goals as goal

pub returns-clause-kept : goal.returns-clause-kept
returns-clause-kept g c =
    let p = c.args.plan.now in
    let s = c.args.script.now in
    let none : breach_of_script p s ≡ None = c.in_ok-report.ensures.no_breach in
    (scripts_keep p s c.requires.script c.quanta-within_bounds.ensures.within none).0

pub returns-clause-within : goal.returns-clause-within
returns-clause-within g c =
    let p = c.args.plan.now in
    let s = c.args.script.now in
    let none : breach_of_script p s ≡ None = c.in_ok-report.ensures.no_breach in
    let report : c.in_ok-report.report ≡ report_of_script p s = c.in_ok-report.ensures.report in
    subst (λ (r : Report). IsWithinBounds (text_of p) (graph_of p) r) (sym report) (scripts_keep p s c.requires.script c.quanta-within_bounds.ensures.within none).1
