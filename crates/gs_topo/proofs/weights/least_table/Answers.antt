use Rattle.std.proofs.Common.{arith, rules, ◌≡◌, ◌∙◌, ◌<◌, ◌^◌, ◌++◌, ℕ, slice_index}
use Rattle.gs_topo.specs.Graph.{adjacent}
use Rattle.gs_topo.specs.Weights.{Lengths, length_between}
use Rattle.gs_topo.proofs.LeastSums.{rows_more, weighted_steps}
use Rattle.gs_topo.proofs.Sound.{inside_of}
use Rattle.gs_topo.proofs.Tables.{sums_of}
use Rattle.gs_topo.proofs.weights.least_table.Goals as goal

pub sums_from-requires-clause-source : goal.sums_from-requires-clause-source
sums_from-requires-clause-source c =
    let steps = weighted_steps (record { graph = c.args.topology.now; lengths = c.args.lengths.now }) c.deref.result.now (c.deref.ensures.value ∙ c.in_ok-all.ensures) in
    rw steps.count (omega (arith, c.loop-source-test.true, c.nodes-source-end.ensures.value))

pub sums_from-requires-clause-inside : goal.sums_from-requires-clause-inside
sums_from-requires-clause-inside c =
    let l : Lengths = record { graph = c.args.topology.now; lengths = c.args.lengths.now } in
    let steps = weighted_steps l c.deref.result.now (c.deref.ensures.value ∙ c.in_ok-all.ensures) in
    inside_of c.args.topology.now.nodes (adjacent c.args.topology.now) (length_between l) c.deref.result.now steps

pub loop-source-preserved : goal.loop-source-preserved
loop-source-preserved c =
    let l : Lengths = record { graph = c.args.topology.now; lengths = c.args.lengths.now } in
    let steps = weighted_steps l c.deref.result.now (c.deref.ensures.value ∙ c.in_ok-all.ensures) in
    let inside : c.loop-source.source < c.args.topology.now.nodes = omega (arith, c.loop-source-test.true, c.nodes-source-end.ensures.value) in
    let sums = sums_of c.deref.result.now c.args.topology.now.nodes c.loop-source.source (adjacent c.args.topology.now) (length_between l) c.in_ok-row.row.items steps c.in_ok-row.ensures in
    let small : (i : ℕ) → slice_index c.args.lengths.now i < 2 ^ 64 = λ i. (c.type_inv.lengths i).fits in
    let added : c.extend_from_slice.new.self.items ≡ c.loop-source.table.items ++ c.in_ok-row.row.items = search rules in
    rw added (rows_more l c.loop-source.source c.loop-source.table.items c.in_ok-row.row.items c.nodes-source-end.ensures.graph small inside sums c.loop-source.invariant)

pub returns : goal.returns
returns c =
    let last : c.loop-source.source ≡ c.args.topology.now.nodes = omega (arith, c.loop-source.auto.source-end, c.loop-source-test.false, c.nodes-source-end.ensures.value) in
    rw last at c.loop-source.invariant
