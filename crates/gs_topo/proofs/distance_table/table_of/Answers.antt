use Rattle.std.proofs.Common.{arith, rules, ◌≡◌, ◌++◌, ◌<◌, length, map}
use Rattle.std.specs.List.{range_with_len}
use Rattle.std.proofs.lemmas.List.FromFn.{length-map-range_with_len}
use Rattle.gs_topo.specs.Graph.{neighbours_of}
use Rattle.gs_topo.specs.Walks.{distance_of}
use Rattle.gs_topo.proofs.Building.{flat_range_more}
use Rattle.gs_topo.proofs.Tables.{row_is}
use Rattle.gs_topo.proofs.distance_table.table_of.Goals as goal

pub loop-source-preserved : goal.loop-source-preserved
loop-source-preserved c = λ g are is.
    let count : length c.args.lists.now ≡ g.nodes = rw are (length-map-range_with_len (neighbours_of g) 0 g.nodes) in
    let inside : c.loop-source.source < g.nodes = omega (arith, count, c.loop-source-test.true) in
    let row = row_is g c.args.lists.now c.loop-source.source c.in_ok-row.row.items is are inside c.in_ok-row.ensures in
    let more = flat_range_more (λ v. map (distance_of g v) (range_with_len 0 g.nodes)) c.loop-source.source in
    let added : c.extend_from_slice.new.self.items ≡ c.loop-source.table.items ++ c.in_ok-row.row.items = search rules in
    let before = c.loop-source.invariant g are is in
    rw (more, ← before, ← row) added

pub returns : goal.returns
returns c = λ g are is.
    let count : length c.args.lists.now ≡ g.nodes = rw are (length-map-range_with_len (neighbours_of g) 0 g.nodes) in
    let last : c.loop-source.source ≡ g.nodes = omega (arith, count, c.loop-source-test.false, c.loop-source.auto.source-end) in
    rw last at c.loop-source.invariant g are is
