use Rattle.std.proofs.Common.{◌≡◌, max, rules}
use Rattle.gs_skew.specs.Skews.{edge_skew}
use Rattle.gs_skew.proofs.Greatest.{greatest_more}
use Rattle.gs_skew.proofs.skew.neighbour_skew.Goals as goal

pub loop-edge-preserved : goal.loop-edge-preserved
loop-edge-preserved c =
    let inside = rw c.edges-edge-items.ensures.value at c.loop-edge-test.true in
    let skew = rw c.edges-edge-items.ensures.value at c.skew_between.ensures in
    let more = greatest_more (edge_skew c.args.clocks.now) c.args.topo.now.edges c.loop-edge.edge-index (0, 0) inside in
    let greater : c.max-most.result ≡ max c.loop-edge.most c.skew_between.result = search rules in
    rw (more, ← c.loop-edge.invariant, ← skew) greater
