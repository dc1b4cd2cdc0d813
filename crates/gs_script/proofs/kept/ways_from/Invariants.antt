use Rattle.gs_plan.specs.Plans.{text_of}
use Rattle.gs_script.specs.inside.Kept.{HasWays}
use Rattle.gs_script.proofs.kept.ways_from.Given as goal

abbrev pub invariant-loop-k : goal.invariant-loop-k
invariant-loop-k l = HasWays (text_of l.plan) l.lines l.v l.k l.index.items l.items.items
