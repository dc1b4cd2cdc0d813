use Rattle.std.proofs.Common.{◌≡◌, ◌∙◌}
use Rattle.gs_topo.proofs.weights.Weights.new.Goals as goal

pub invariant_of-result : goal.invariant_of-result
invariant_of-result c =
    let edges : c.in_ok-from_slice.field-0.items ≡ c.args.topology.now.edges = c.in_ok-from_slice.ensures.items ∙ c.edges.ensures.value in
    let nodes = c.nodes.ensures.value in
    let lengths = c.in_ok-from_slice-2.ensures.items in
    rw (edges, nodes, lengths) c.in_ok-table.ensures
