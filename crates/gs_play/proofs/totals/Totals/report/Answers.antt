use Rattle.std.proofs.Common.{◌≡◌, ℕ, ap, subst, sym, ◌∙◌, List, [], ◌∷◌, ◌++◌, length, IfOk}
use Rattle.gs_plan.specs.Plans.{graph_of, text_of}
use Rattle.gs_level.specs.Reports.{report_of}
use Rattle.gs_level.specs.Tallies.{tally_of}
use Rattle.gs_run.specs.Nets.{net_of}
use Rattle.gs_run.specs.RunRows.{rows_of}
use Rattle.gs_run.specs.World.{clocks_in}
use Rattle.gs_seat.specs.Worlds.{world_of}
use Rattle.gs_calendar.specs.Events.{events_upto}
use Rattle.gs_calendar.specs.Scripts.{start_of}
use Rattle.gs_play.proofs.Counted.{row_count}
use Rattle.gs_play.proofs.totals.Totals.report.Goals as goal

pub report-requires : goal.report-requires
report-requires c =
    let r = c.requires in
    ap length (c.deref.ensures.value ∙ r.2.row) ∙ row_count (net_of c.args.plan.now) r.0 r.1

pub returns-clause-value : goal.returns-clause-value
returns-clause-value c = λ course t are.
    let p = c.args.plan.now in
    let net = net_of p in
    let g = graph_of p in
    let all : List (List ℕ) = rows_of net (start_of net) (events_upto net course t) in
    let same : c.deref.result.now ≡ clocks_in net (world_of net course t) = c.deref.ensures.value ∙ are.row in
    let whole : all ≡ are.tallied.before ++ c.deref.result.now ∷ [] = are.tallied.rows ∙ ap (λ (l : List ℕ). are.tallied.before ++ l ∷ []) (sym same) in
    let given = c.report.ensures.value are.tallied.before (c.tally.ensures ∙ are.tallied.is.tally ∙ ap (λ (l : List ℕ). tally_of g (are.tallied.before ++ l ∷ [])) (sym same)) in
    let fast : ℕ = c.args.self.now.fast in
    subst (λ (k : ℕ). IfOk c.report.result (λ report. report ≡ report_of (text_of p) g all k)) are.fast
    (subst (λ (rows : List (List ℕ)). IfOk c.report.result (λ report. report ≡ report_of (text_of p) g rows fast)) (sym whole) given)
