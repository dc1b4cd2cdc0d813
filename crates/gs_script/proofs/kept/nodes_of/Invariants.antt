use Rattle.gs_plan.specs.Plans.{text_of}
use Rattle.gs_script.specs.inside.Kept.{HasNodes}
use Rattle.gs_script.proofs.kept.nodes_of.Given as goal

abbrev pub invariant-loop-v : goal.invariant-loop-v
invariant-loop-v l = HasNodes (text_of l.plan) l.lines l.v l.nodes.items
