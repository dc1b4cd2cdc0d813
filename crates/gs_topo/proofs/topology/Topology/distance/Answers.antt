use Rattle.std.proofs.Common.{rules, ◌≡◌, ◌∙◌, ◌*◌, ◌+◌, ◌<◌, ap, slice_index, length}
use Rattle.std.proofs.lemmas.List.{get_or_read}
use Rattle.gs_topo.specs.Graph.{Graph}
use Rattle.gs_topo.specs.inside.Kept.{AreKept}
use Rattle.gs_topo.specs.Walks.{distance_of}
use Rattle.gs_topo.proofs.Distances.{is_below, is_least}
use Rattle.gs_topo.proofs.Tables.{entry_is}
use Rattle.gs_topo.proofs.topology.Topology.distance.Goals as goal

pub index-requires : goal.index-requires
index-requires c =
    let kept : AreKept c.args.self.now c.self.inside.lists.items c.self.inside.table.items c.self.inside.diameter = rw c.self.view_is at c.self.invariant in
    let nodes : c.self.inside.nodes ≡ c.args.self.now.nodes = ap (λ (g : Graph). g.nodes) c.self.view_is in
    let entry = entry_is c.args.self.now c.self.inside.table.items c.args.v c.args.w kept.table c.requires.0 c.requires.1 in
    let inside : c.args.v * c.self.inside.nodes + c.args.w < length c.self.inside.table.items = rw nodes entry.0 in
    search rules

value_is : (c : goal.After-from) → c.from.result ≡ distance_of c.args.self.now c.args.v c.args.w
value_is c =
    let kept : AreKept c.args.self.now c.self.inside.lists.items c.self.inside.table.items c.self.inside.diameter = rw c.self.view_is at c.self.invariant in
    let nodes : c.self.inside.nodes ≡ c.args.self.now.nodes = ap (λ (g : Graph). g.nodes) c.self.view_is in
    let entry = entry_is c.args.self.now c.self.inside.table.items c.args.v c.args.w kept.table c.requires.0 c.requires.1 in
    let inside : c.args.v * c.self.inside.nodes + c.args.w < length c.self.inside.table.items = rw nodes entry.0 in
    let read : c.index.result.now ≡ slice_index c.self.inside.table.items (c.args.v * c.self.inside.nodes + c.args.w) = get_or_read c.self.inside.table.items (c.args.v * c.self.inside.nodes + c.args.w) c.index.result.now inside c.index.ensures 0 in
    c.from.ensures ∙ (rw nodes at read) ∙ entry.1

pub returns-clause-value : goal.returns-clause-value
returns-clause-value c = value_is c

pub returns-clause-graph : goal.returns-clause-graph
returns-clause-graph c =
    let kept : AreKept c.args.self.now c.self.inside.lists.items c.self.inside.table.items c.self.inside.diameter = rw c.self.view_is at c.self.invariant in
    kept.graph

pub returns-clause-least : goal.returns-clause-least
returns-clause-least c =
    let kept : AreKept c.args.self.now c.self.inside.lists.items c.self.inside.table.items c.self.inside.diameter = rw c.self.view_is at c.self.invariant in
    let nodes : c.self.inside.nodes ≡ c.args.self.now.nodes = ap (λ (g : Graph). g.nodes) c.self.view_is in
    rw (value_is c) (is_least c.args.self.now kept.graph.connected c.args.v c.args.w c.requires.0 c.requires.1)

pub returns-clause-below : goal.returns-clause-below
returns-clause-below c =
    let kept : AreKept c.args.self.now c.self.inside.lists.items c.self.inside.table.items c.self.inside.diameter = rw c.self.view_is at c.self.invariant in
    let nodes : c.self.inside.nodes ≡ c.args.self.now.nodes = ap (λ (g : Graph). g.nodes) c.self.view_is in
    rw (value_is c) (is_below c.args.self.now kept.graph.connected c.args.v c.args.w c.requires.0 c.requires.1)
