use Rattle.std.proofs.Common.{◌+◌, ap, ◌∙◌, length}
use Rattle.std.proofs.lemmas.List.FromFn.{length-map-range_with_len}
use Rattle.gs_plan.specs.Plans.{text_of, graph_of}
use Rattle.gs_level.specs.Peaks.{peak_of}
use Rattle.gs_plan.specs.Weights.{weight_in}
use Rattle.gs_level.proofs.tally.Tally.report.Goals as goal

pub returns-clause-levels : goal.returns-clause-levels
returns-clause-levels c =
    ap length c.in_ok-peaks.ensures
    ∙ length-map-range_with_len (peak_of (weight_in (text_of c.args.plan.now) (graph_of c.args.plan.now)) c.args.clocks.now) 0 ((text_of c.args.plan.now).levels + 1)
