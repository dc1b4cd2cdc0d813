use Rattle.std.proofs.Common.{◌≡◌}
use Rattle.gs_plan.specs.Plans.{text_of, graph_of}
use Rattle.gs_tool.specs.PlanTexts.{with_edges}
use Rattle.gs_tool.proofs.plan_text.write_edges.Given as goal

abbrev pub invariant-loop-e : goal.invariant-loop-e
invariant-loop-e l = l.text ≡ with_edges l.fn.text (text_of l.plan) (graph_of l.plan) l.e
