use Rattle.std.proofs.Common.{rules, arith, ◌≡◌, ◌≢◌, ◌∙◌, ap, sym, subst, ℕ, List, [], Some, Result, Err, length, map}
use Rattle.std.specs.List.{range_with_len}
use Rattle.std.proofs.lemmas.List.FromFn.{length-map-range_with_len}
use Rattle.gs_topo.specs.declared.fault.TopoFault.{TopoFault}
use Rattle.gs_topo.specs.declared.fault.TopoFault.TheVariants.{OutOfMemory, Split}
use Rattle.gs_topo.specs.Faults.{edges_fault}
use Rattle.gs_topo.specs.Graph.{Graph, graph_of, joined, neighbours_of}
use Rattle.gs_topo.specs.inside.Kept.{AreKept, HasFlags}
use Rattle.gs_topo.specs.Walks.{IsTopology, IsSplitAt}
use Rattle.gs_topo.proofs.Sound.{IsSearched, edges_are, lists_are, lists_below, no_edges_split, none_found, split_found, split_is}
use Rattle.gs_topo.proofs.Tables.{diameter_is}
use Rattle.gs_topo.proofs.topology.Topology.new.Goals as goal

abbrev refused : TopoFault → Result Graph TopoFault
refused e = Err e

no_split : (n : ℕ) (given : List (ℕ × ℕ)) (e : TopoFault) → (e ≢ OutOfMemory → edges_fault n [] 0 given ≡ Some e) → (v : ℕ) → refused e ≡ refused (Split v) → IsSplitAt (graph_of n given) v
no_split n given e found v is =
    let same : e ≡ Split v = cc in
    let P : TopoFault → Type 0 = λ x. x ≢ OutOfMemory → edges_fault n [] 0 given ≡ Some x in
    absurd (no_edges_split n [] 0 given v (subst P same found (λ other. cc)))

pub returns-in_err-flags-clause-split : goal.returns-in_err-flags-clause-split
returns-in_err-flags-clause-split c = λ v is.
    let same : c.from_residual.result ≡ Err c.in_err-flags.field-0.0 = search rules in
    no_split c.args.n c.args.edges.now c.in_err-flags.field-0.0 c.in_err-flags.ensures.err v (sym same ∙ is)

pub levels_from-requires-clause-below : goal.levels_from-requires-clause-below
levels_from-requires-clause-below c =
    let flags : HasFlags c.args.n (joined c.args.edges.now) c.deref-2.result.now = rw c.deref-2.ensures.value c.in_ok-flags.ensures.flags in
    let lists : c.deref-3.result.now ≡ map (neighbours_of (graph_of c.args.n c.args.edges.now)) (range_with_len 0 c.args.n) = c.deref-3.ensures.value ∙ c.in_ok-lists.ensures ∙ lists_are c.args.n c.args.edges.now c.deref-2.result.now flags c.in_ok-flags.ensures.ok in
    lists_below (graph_of c.args.n c.args.edges.now) c.deref-3.result.now lists

pub levels_from-requires-clause-source : goal.levels_from-requires-clause-source
levels_from-requires-clause-source c =
    let flags : HasFlags c.args.n (joined c.args.edges.now) c.deref-2.result.now = rw c.deref-2.ensures.value c.in_ok-flags.ensures.flags in
    let lists : c.deref-3.result.now ≡ map (neighbours_of (graph_of c.args.n c.args.edges.now)) (range_with_len 0 c.args.n) = c.deref-3.ensures.value ∙ c.in_ok-lists.ensures ∙ lists_are c.args.n c.args.edges.now c.deref-2.result.now flags c.in_ok-flags.ensures.ok in
    rw (lists, length-map-range_with_len (neighbours_of (graph_of c.args.n c.args.edges.now)) 0 c.args.n) (omega arith)

pub first_unreached-requires : goal.first_unreached-requires
first_unreached-requires c =
    let flags : HasFlags c.args.n (joined c.args.edges.now) c.deref-2.result.now = rw c.deref-2.ensures.value c.in_ok-flags.ensures.flags in
    let lists : c.deref-3.result.now ≡ map (neighbours_of (graph_of c.args.n c.args.edges.now)) (range_with_len 0 c.args.n) = c.deref-3.ensures.value ∙ c.in_ok-lists.ensures ∙ lists_are c.args.n c.args.edges.now c.deref-2.result.now flags c.in_ok-flags.ensures.ok in
    let found = c.in_ok-levels.ensures (graph_of c.args.n c.args.edges.now) lists in
    omega (arith, c.deref-4.ensures.len, ap length c.deref-4.ensures.value, found.count)

pub returns-in-Some-clause-err : goal.returns-in-Some-clause-err
returns-in-Some-clause-err c = λ _.
    let flags : HasFlags c.args.n (joined c.args.edges.now) c.deref-2.result.now = rw c.deref-2.ensures.value c.in_ok-flags.ensures.flags in
    let lists : c.deref-3.result.now ≡ map (neighbours_of (graph_of c.args.n c.args.edges.now)) (range_with_len 0 c.args.n) = c.deref-3.ensures.value ∙ c.in_ok-lists.ensures ∙ lists_are c.args.n c.args.edges.now c.deref-2.result.now flags c.in_ok-flags.ensures.ok in
    let found = c.in_ok-levels.ensures (graph_of c.args.n c.args.edges.now) lists in
    let searched : IsSearched c.args.n c.args.edges.now c.deref-4.result.now = record { some = omega arith; few = omega arith; many = omega arith; sound = c.in_ok-flags.ensures.ok; found = rw c.deref-4.ensures.value found } in
    let some = c.in-Some.ensures.some in
    split_found c.args.n c.args.edges.now c.deref-4.result.now c.in-Some.node searched some.0 some.1 some.2

pub returns-in-Some-clause-split : goal.returns-in-Some-clause-split
returns-in-Some-clause-split c = λ v is.
    let flags : HasFlags c.args.n (joined c.args.edges.now) c.deref-2.result.now = rw c.deref-2.ensures.value c.in_ok-flags.ensures.flags in
    let lists : c.deref-3.result.now ≡ map (neighbours_of (graph_of c.args.n c.args.edges.now)) (range_with_len 0 c.args.n) = c.deref-3.ensures.value ∙ c.in_ok-lists.ensures ∙ lists_are c.args.n c.args.edges.now c.deref-2.result.now flags c.in_ok-flags.ensures.ok in
    let found = c.in_ok-levels.ensures (graph_of c.args.n c.args.edges.now) lists in
    let searched : IsSearched c.args.n c.args.edges.now c.deref-4.result.now = record { some = omega arith; few = omega arith; many = omega arith; sound = c.in_ok-flags.ensures.ok; found = rw c.deref-4.ensures.value found } in
    let some = c.in-Some.ensures.some in
    let same : c.in-Some.node ≡ v = cc in
    let P : ℕ → Type 0 = λ u. IsSplitAt (graph_of c.args.n c.args.edges.now) u in
    subst P same (split_is c.args.n c.args.edges.now c.deref-4.result.now c.in-Some.node searched some.0 some.1 some.2)

pub table_of-requires-clause-few : goal.table_of-requires-clause-few
table_of-requires-clause-few c =
    let flags : HasFlags c.args.n (joined c.args.edges.now) c.deref-2.result.now = rw c.deref-2.ensures.value c.in_ok-flags.ensures.flags in
    let lists : c.deref-3.result.now ≡ map (neighbours_of (graph_of c.args.n c.args.edges.now)) (range_with_len 0 c.args.n) = c.deref-3.ensures.value ∙ c.in_ok-lists.ensures ∙ lists_are c.args.n c.args.edges.now c.deref-2.result.now flags c.in_ok-flags.ensures.ok in
    let same : c.deref-5.result.now ≡ c.deref-3.result.now = c.deref-5.ensures.value ∙ sym c.deref-3.ensures.value in
    rw (same, lists, length-map-range_with_len (neighbours_of (graph_of c.args.n c.args.edges.now)) 0 c.args.n) (omega arith)

pub table_of-requires-clause-below : goal.table_of-requires-clause-below
table_of-requires-clause-below c =
    let flags : HasFlags c.args.n (joined c.args.edges.now) c.deref-2.result.now = rw c.deref-2.ensures.value c.in_ok-flags.ensures.flags in
    let lists : c.deref-3.result.now ≡ map (neighbours_of (graph_of c.args.n c.args.edges.now)) (range_with_len 0 c.args.n) = c.deref-3.ensures.value ∙ c.in_ok-lists.ensures ∙ lists_are c.args.n c.args.edges.now c.deref-2.result.now flags c.in_ok-flags.ensures.ok in
    let same : c.deref-5.result.now ≡ c.deref-3.result.now = c.deref-5.ensures.value ∙ sym c.deref-3.ensures.value in
    rw same (lists_below (graph_of c.args.n c.args.edges.now) c.deref-3.result.now lists)

pub invariant_of-result : goal.invariant_of-result
invariant_of-result c =
    let flags : HasFlags c.args.n (joined c.args.edges.now) c.deref-2.result.now = rw c.deref-2.ensures.value c.in_ok-flags.ensures.flags in
    let lists : c.deref-3.result.now ≡ map (neighbours_of (graph_of c.args.n c.args.edges.now)) (range_with_len 0 c.args.n) = c.deref-3.ensures.value ∙ c.in_ok-lists.ensures ∙ lists_are c.args.n c.args.edges.now c.deref-2.result.now flags c.in_ok-flags.ensures.ok in
    let found = c.in_ok-levels.ensures (graph_of c.args.n c.args.edges.now) lists in
    let searched : IsSearched c.args.n c.args.edges.now c.deref-4.result.now = record { some = omega arith; few = omega arith; many = omega arith; sound = c.in_ok-flags.ensures.ok; found = rw c.deref-4.ensures.value found } in
    let whole = none_found c.args.n c.args.edges.now c.deref-4.result.now searched c.in_default.ensures.none in
    let edges : c.in_ok-edges.edges.items ≡ (graph_of c.args.n c.args.edges.now).edges = c.in_ok-edges.ensures ∙ edges_are c.args.n c.args.edges.now c.deref.result.now (rw c.deref.ensures.value c.in_ok-flags.ensures.flags) in
    let graph : record { nodes = c.args.n; edges = c.in_ok-edges.edges.items } ≡ graph_of c.args.n c.args.edges.now = ap (λ es. record { nodes = c.args.n; edges = es }) edges in
    let same : c.deref-5.result.now ≡ c.deref-3.result.now = c.deref-5.ensures.value ∙ sym c.deref-3.ensures.value in
    let table = c.in_ok-table.ensures (graph_of c.args.n c.args.edges.now) (same ∙ lists) whole.1 in
    let P : Graph → Type 0 = λ g. AreKept g c.in_ok-lists.lists.items c.in_ok-table.table.items c.greatest-diameter.result in
    subst P (sym graph) (record {
      graph = whole.1;
      lists = c.in_ok-lists.ensures ∙ lists_are c.args.n c.args.edges.now c.deref-2.result.now flags c.in_ok-flags.ensures.ok;
      table = table;
      diameter = c.greatest-diameter.ensures ∙ diameter_is (graph_of c.args.n c.args.edges.now) c.deref-6.result.now (c.deref-6.ensures.value ∙ table);
    })

pub returns-clause-ok : goal.returns-clause-ok
returns-clause-ok c =
    let edges : c.in_ok-edges.edges.items ≡ (graph_of c.args.n c.args.edges.now).edges = c.in_ok-edges.ensures ∙ edges_are c.args.n c.args.edges.now c.deref.result.now (rw c.deref.ensures.value c.in_ok-flags.ensures.flags) in
    let graph : record { nodes = c.args.n; edges = c.in_ok-edges.edges.items } ≡ graph_of c.args.n c.args.edges.now = ap (λ es. record { nodes = c.args.n; edges = es }) edges in
    graph

pub returns-clause-sound : goal.returns-clause-sound
returns-clause-sound c =
    let flags : HasFlags c.args.n (joined c.args.edges.now) c.deref-2.result.now = rw c.deref-2.ensures.value c.in_ok-flags.ensures.flags in
    let lists : c.deref-3.result.now ≡ map (neighbours_of (graph_of c.args.n c.args.edges.now)) (range_with_len 0 c.args.n) = c.deref-3.ensures.value ∙ c.in_ok-lists.ensures ∙ lists_are c.args.n c.args.edges.now c.deref-2.result.now flags c.in_ok-flags.ensures.ok in
    let found = c.in_ok-levels.ensures (graph_of c.args.n c.args.edges.now) lists in
    let searched : IsSearched c.args.n c.args.edges.now c.deref-4.result.now = record { some = omega arith; few = omega arith; many = omega arith; sound = c.in_ok-flags.ensures.ok; found = rw c.deref-4.ensures.value found } in
    let whole = none_found c.args.n c.args.edges.now c.deref-4.result.now searched c.in_default.ensures.none in
    whole.0

pub returns-clause-graph : goal.returns-clause-graph
returns-clause-graph c =
    let flags : HasFlags c.args.n (joined c.args.edges.now) c.deref-2.result.now = rw c.deref-2.ensures.value c.in_ok-flags.ensures.flags in
    let lists : c.deref-3.result.now ≡ map (neighbours_of (graph_of c.args.n c.args.edges.now)) (range_with_len 0 c.args.n) = c.deref-3.ensures.value ∙ c.in_ok-lists.ensures ∙ lists_are c.args.n c.args.edges.now c.deref-2.result.now flags c.in_ok-flags.ensures.ok in
    let found = c.in_ok-levels.ensures (graph_of c.args.n c.args.edges.now) lists in
    let searched : IsSearched c.args.n c.args.edges.now c.deref-4.result.now = record { some = omega arith; few = omega arith; many = omega arith; sound = c.in_ok-flags.ensures.ok; found = rw c.deref-4.ensures.value found } in
    let whole = none_found c.args.n c.args.edges.now c.deref-4.result.now searched c.in_default.ensures.none in
    let edges : c.in_ok-edges.edges.items ≡ (graph_of c.args.n c.args.edges.now).edges = c.in_ok-edges.ensures ∙ edges_are c.args.n c.args.edges.now c.deref.result.now (rw c.deref.ensures.value c.in_ok-flags.ensures.flags) in
    let graph : record { nodes = c.args.n; edges = c.in_ok-edges.edges.items } ≡ graph_of c.args.n c.args.edges.now = ap (λ es. record { nodes = c.args.n; edges = es }) edges in
    let P : Graph → Type 0 = λ g. IsTopology g in
    subst P (sym graph) whole.1
