use Rattle.std.proofs.Common.{◌≡◌, drop}
use Rattle.gs_plan.specs.Plans.{text_of, graph_of}
use Rattle.gs_level.specs.ReportText.{with_levels}
use Rattle.gs_level.proofs.report_text.write_levels.Given as goal

abbrev pub invariant-loop-s : goal.invariant-loop-s
invariant-loop-s l = with_levels l.text (text_of l.plan) (graph_of l.plan) l.s (drop l.s l.peaks) ≡ with_levels l.fn.text (text_of l.plan) (graph_of l.plan) 0 l.peaks
