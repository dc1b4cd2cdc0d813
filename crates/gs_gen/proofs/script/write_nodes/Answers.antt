use Rattle.std.proofs.Common.{ap, sym, ◌∙◌}
use Rattle.std.proofs.lemmas.List.{append-nil}
use Rattle.gs_gen.specs.Draws.{after_three, next_three}
use Rattle.gs_gen.specs.Texts.{nodes_records}
use Rattle.gs_gen.proofs.Drawing.{drawn_none, node_draws, node_leaves}
use Rattle.gs_gen.proofs.Joining.{nodes_more}
use Rattle.gs_gen.proofs.script.write_nodes.Goals as goal

pub loop-v-init : goal.loop-v-init
unfolding nodes_records
loop-v-init c = (sym (append-nil c.args.text.now), c.seed_from_u64-generator.ensures ∙ drawn_none c.args.number)

pub loop-v-preserved : goal.loop-v-preserved
loop-v-preserved c =
    let number = c.args.number in
    let v = c.loop-v.v in (
      nodes_more number c.args.size v c.args.text.now c.loop-v.text c.write_node.new.text c.next-draws.result
          c.loop-v.invariant.0
          (c.next-draws.ensures.three ∙ ap next_three c.loop-v.invariant.1 ∙ node_draws number v)
          c.in_ok-write_node.ensures,
      c.next-draws.ensures.rest ∙ ap after_three c.loop-v.invariant.1 ∙ node_leaves number v,
    )
