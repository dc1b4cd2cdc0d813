use Rattle.gs_topo.specs.Graph.{neighbours_of}
use Rattle.gs_topo.specs.inside.Search.{steps_over}
use Rattle.gs_topo.specs.Weights.{length_between}
use Rattle.gs_topo.proofs.Building.{map_range_more}
use Rattle.gs_topo.proofs.weights.all_steps.Goals as goal

pub loop-v-preserved : goal.loop-v-preserved
loop-v-preserved c =
    let more = map_range_more (λ v. steps_over (length_between (record { graph = c.args.topology.now; lengths = c.args.lengths.now }) v) (neighbours_of c.args.topology.now v)) c.loop-v.v in
    let before = c.loop-v.invariant in
    let steps = c.in_ok-steps_from.ensures in
    rw (more, ← before, ← steps) c.in_ok-push.ensures.items
