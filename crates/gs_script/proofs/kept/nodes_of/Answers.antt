use Rattle.std.proofs.Common.{rules, ◌≡◌, true}
use Rattle.std.specs.Result.{is_ok}
use Rattle.gs_plan.specs.Plans.{text_of}
use Rattle.gs_script.proofs.Keeping.{nodes-more}
use Rattle.gs_script.proofs.kept.nodes_of.Goals as goal

pub loop-v-preserved : goal.loop-v-preserved
loop-v-preserved c =
    let good : is_ok c.push.result ≡ true = search rules in
    let items = rw good at c.push.ensures.items in
    rw items (nodes-more (text_of c.args.plan.now) c.args.lines.now c.loop-v.v c.loop-v.nodes.items c.in_ok-node_of.field-0 c.loop-v.invariant c.in_ok-node_of.ensures)
