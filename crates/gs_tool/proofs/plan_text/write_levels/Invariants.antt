use Rattle.std.proofs.Common.{◌≡◌}
use Rattle.gs_plan.specs.Plans.{text_of, graph_of}
use Rattle.gs_tool.specs.PlanTexts.{with_levels}
use Rattle.gs_tool.proofs.plan_text.write_levels.Given as goal

abbrev pub invariant-loop-s : goal.invariant-loop-s
invariant-loop-s l = l.text ≡ with_levels l.fn.text (text_of l.plan) (graph_of l.plan) l.s
