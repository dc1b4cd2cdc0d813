use Rattle.std.proofs.Common.{◌≡◌, ◌∙◌, ap, get_or, List, slice_get, slice_index, sym, Some, ℕ}
use Rattle.std.proofs.lemmas.Option.{slice_get-get_or}
use Rattle.gs_topo.specs.Graph.{Graph}
use Rattle.gs_skew.specs.Skews.{edge_skew}
use Rattle.gs_plan.specs.Plans.{graph_of}
use Rattle.gs_plan.proofs.Linking.{if_some}
use Rattle.gs_run.specs.Nets.{net_of}
use Rattle.gs_world.specs.Placed.{Placed}
use Rattle.gs_run.specs.World.{clock_in, clocks_in}
use Rattle.gs_world.proofs.Reading.{clock_found, either_way, ends_of_edge}
use Rattle.gs_world.proofs.world.World.edge_skew.Goals as goal

pub returns : goal.returns
returns c =
    let p = c.args.self.now in
    let edges = (graph_of p.plan).edges in
    let edge : ℕ × ℕ = get_or edges c.args.e (0, 0) in
    let at : slice_get edges c.args.e ≡ Some edge = slice_get-get_or edges c.args.e (0, 0) c.requires in
    let same : c.edges.result.now ≡ edges =
    c.edges.ensures.value ∙ ap (λ (g : Graph). g.edges) c.topo.ensures
    ∙ ap (λ (x : Placed). (graph_of x.plan).edges) c.self.view_is in
    let v : c.clock.result ≡ clock_in (net_of p.plan) p.world edge.0 =
    c.clock.ensures.value
    ∙ ap (λ (xs : List (ℕ × ℕ)). clock_in (net_of p.plan) p.world (get_or xs c.args.e (0, 0)).0) same in
    let w : c.clock-2.result ≡ clock_in (net_of p.plan) p.world edge.1 =
    c.clock-2.ensures.value
    ∙ ap (λ (xs : List (ℕ × ℕ)). clock_in (net_of p.plan) p.world (get_or xs c.args.e (0, 0)).1) same in
    let ends = ends_of_edge p.plan c.args.e c.requires in
    let v_at = clock_found c.self.inside p edge.0 c.self.invariant c.self.view_is ends.0 in
    let w_at = clock_found c.self.inside p edge.1 c.self.invariant c.self.view_is ends.1 in
    if_some (λ (e : ℕ × ℕ). c.abs_diff.result ≡ edge_skew (clocks_in (net_of p.plan) p.world) e) at
    (either_way c.abs_diff.result c.clock.result c.clock-2.result (slice_index (clocks_in (net_of p.plan) p.world) edge.0) (slice_index (clocks_in (net_of p.plan) p.world) edge.1)
    c.abs_diff.ensures (v ∙ sym v_at) (w ∙ sym w_at))
