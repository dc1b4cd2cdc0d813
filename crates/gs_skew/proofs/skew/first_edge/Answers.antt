use Rattle.std.proofs.Common.{◌==◌, sym}
use Rattle.std.proofs.lemmas.Bool.{eq-eqb, ne_eqb}
use Rattle.gs_skew.specs.Skews.{edge_skew}
use Rattle.gs_skew.proofs.Finding.{find_here, find_on}
use Rattle.gs_skew.proofs.skew.first_edge.Goals as goal

pub returns-then-skew_between-skew : goal.returns-then-skew_between-skew
returns-then-skew_between-skew c =
    let inside = rw c.edges-edge-items.ensures.value at c.loop-edge-test.true in
    let skew = rw c.edges-edge-items.ensures.value at c.skew_between.ensures in
    rw c.edges-edge-items.ensures.value
    (sym (find_here (λ e. edge_skew c.args.clocks.now e == c.args.skew) c.args.topo.now.edges c.loop-edge.edge-index (0, 0) inside c.loop-edge.invariant
    (rw (← skew) (eq-eqb c.skew_between.result c.args.skew c.if-skew_between-skew.true))))

pub loop-edge-preserved : goal.loop-edge-preserved
loop-edge-preserved c =
    let inside = rw c.edges-edge-items.ensures.value at c.loop-edge-test.true in
    let skew = rw c.edges-edge-items.ensures.value at c.skew_between.ensures in
    find_on (λ e. edge_skew c.args.clocks.now e == c.args.skew) c.args.topo.now.edges c.loop-edge.edge-index (0, 0) inside c.loop-edge.invariant
    (rw (← skew) (ne_eqb c.skew_between.result c.args.skew c.if-skew_between-skew.false))
