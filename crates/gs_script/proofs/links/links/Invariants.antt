use Rattle.std.proofs.Common.{◌≡◌, take, map}
use Rattle.gs_plan.specs.Plans.{text_of}
use Rattle.gs_plan.specs.Shapes.{graph_of_text}
use Rattle.gs_script.specs.inside.Kept.{link_of}
use Rattle.gs_script.proofs.links.links.Given as goal

abbrev pub invariant-loop-e : goal.invariant-loop-e
invariant-loop-e l = l.links.items ≡ map (link_of (text_of l.plan)) (take l.e (graph_of_text (text_of l.plan)).edges)
