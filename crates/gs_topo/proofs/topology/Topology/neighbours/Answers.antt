use Rattle.std.proofs.Common.{rules, ◌≡◌, ◌∙◌, ◌<◌, ap, length}
use Rattle.gs_topo.specs.Graph.{Graph}
use Rattle.gs_topo.specs.inside.Kept.{AreKept}
use Rattle.gs_topo.proofs.Tables.{list_is}
use Rattle.gs_topo.proofs.topology.Topology.neighbours.Goals as goal

pub index-requires : goal.index-requires
index-requires c =
    let kept : AreKept c.args.self.now c.self.inside.lists.items c.self.inside.table.items c.self.inside.diameter = rw c.self.view_is at c.self.invariant in
    let nodes : c.self.inside.nodes ≡ c.args.self.now.nodes = ap (λ (g : Graph). g.nodes) c.self.view_is in
    let list = list_is c.args.self.now c.self.inside.lists.items c.args.v kept.lists c.requires in
    let inside : c.args.v < length c.self.inside.lists.items = list.0 in
    search rules

pub returns : goal.returns
returns c =
    let kept : AreKept c.args.self.now c.self.inside.lists.items c.self.inside.table.items c.self.inside.diameter = rw c.self.view_is at c.self.invariant in
    let nodes : c.self.inside.nodes ≡ c.args.self.now.nodes = ap (λ (g : Graph). g.nodes) c.self.view_is in
    let list = list_is c.args.self.now c.self.inside.lists.items c.args.v kept.lists c.requires in
    c.as_slice.ensures ∙ c.index.ensures ∙ list.1 c.index.result.now
