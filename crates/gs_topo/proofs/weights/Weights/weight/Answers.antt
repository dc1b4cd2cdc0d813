use Rattle.std.proofs.Common.{refl, ◌≡◌, ◌*◌, ◌+◌, ◌<◌, ap, length, slice_index}
use Rattle.std.proofs.lemmas.List.{get_or_read}
use Rattle.std.proofs.lemmas.Nat.{mul-add-lt}
use Rattle.gs_topo.specs.Walks.{IsTopology, distance_of}
use Rattle.gs_topo.specs.inside.Weighted.{AreRows, AreWeights}
use Rattle.gs_topo.specs.Weights.{Lengths}
use Rattle.gs_topo.specs.declared.weights.Table.TheVariants.{Each, Even}
use Rattle.gs_topo.proofs.LeastSums.{scaled_least}
use Rattle.gs_topo.proofs.weights.Weights.weight.Goals as goal

pub returns-in-Even : goal.returns-in-Even
returns-in-Even c =
    let kept : AreWeights c.args.self.now (Even c.in-Even.common) = rw c.in-Even.is at (rw c.self.view_is at c.self.invariant) in
    let is : IsTopology c.args.self.now.graph = rw c.requires.topology at c.distance.ensures.graph in
    let product : c.from.result * c.from-in-Even.result ≡ c.in-Even.common * distance_of c.args.self.now.graph c.args.v c.args.w =
    rw (c.from.ensures, c.from-in-Even.ensures, c.distance.ensures.value, c.requires.topology) refl in
    rw product (scaled_least c.args.self.now c.in-Even.common is kept.0 kept.1 c.args.v c.args.w c.requires.nodes.0 c.requires.nodes.1)

pub returns-in-Each : goal.returns-in-Each
returns-in-Each c =
    let nodes : c.self.inside.nodes ≡ c.args.self.now.graph.nodes = ap (λ (l : Lengths). l.graph.nodes) c.self.view_is in
    let kept : AreWeights c.args.self.now (Each c.in-Each.sums) = rw c.in-Each.is at (rw c.self.view_is at c.self.invariant) in
    let rows : AreRows c.args.self.now c.args.self.now.graph.nodes c.in-Each.sums.items = kept in
    let below = mul-add-lt c.args.v c.args.self.now.graph.nodes c.args.w c.args.self.now.graph.nodes c.requires.nodes.0 c.requires.nodes.1 in
    let inside : c.args.v * c.self.inside.nodes + c.args.w < length c.in-Each.sums.items = rw (nodes, rows.count) below in
    let read : c.index.result.now ≡ slice_index c.in-Each.sums.items (c.args.v * c.self.inside.nodes + c.args.w) = get_or_read c.in-Each.sums.items (c.args.v * c.self.inside.nodes + c.args.w) c.index.result.now inside c.index.ensures 0 in
    rw (rw nodes at read) (rows.least c.args.v c.args.w c.requires.nodes.0 c.requires.nodes.1)
