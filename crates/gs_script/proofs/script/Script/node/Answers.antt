use Rattle.std.proofs.Common.{arith}
use Rattle.gs_plan.specs.Shapes.{graph_of_text}
use Rattle.gs_script.proofs.Keeping.{node_at}
use Rattle.gs_script.proofs.script.Script.node.Goals as goal

pub index-requires : goal.index-requires
index-requires c =
    let s = c.self.inside in
    let inside = rw (← c.self.view_is) at c.requires in
    let count = c.self.invariant.nodes.count in
    omega (arith, count, inside, s.nodes.ok.0)

pub returns : goal.returns
returns c =
    let s = c.self.inside in
    let inside = rw (← c.self.view_is) at c.requires in
    let node = (node_at s.text s.lines.items (graph_of_text s.text).nodes c.args.v s.nodes.items c.index.result.now c.self.invariant.nodes inside).1 in
    rw (← c.self.view_is) (rw (← c.index.ensures) at node)
