-- The report of an allowed run is within the bounds of its plan.
use Rattle.std.proofs.Common.{◌≡◌, ℕ, ◌+◌, ◌-◌, ◌<◌, ◌≤◌, arith, refl, List, [], All, length, map, get_or}
use Rattle.std.proofs.lemmas.Bool.{eq-eqb}
use Rattle.std.proofs.lemmas.List.{get_or-map, length-map}
use Rattle.std.proofs.lemmas.List.Elements.{All-map}
use Rattle.std.proofs.lemmas.List.Folds.{list_any_at}
use Rattle.std.proofs.lemmas.List.FromFn.{get_or-map-range_with_len, length-map-range_with_len}
use Rattle.gs_topo.specs.Graph.{Graph, Adjacent, joins}
use Rattle.gs_planfile.specs.declared.text.PlanText.{PlanText}
use Rattle.gs_plan.specs.declared.plan.Plan.{Plan}
use Rattle.gs_plan.specs.Bounds.{global_in, local_in}
use Rattle.gs_plan.specs.Plans.{graph_of, text_of}
use Rattle.gs_level.specs.declared.peak.Peak.{Peak}
use Rattle.gs_level.specs.Peaks.{peak_of}
use Rattle.gs_skew.specs.Skews.{edge_skew, global_skew, neighbour_skew}
use Rattle.gs_plan.specs.Weights.{weight_in}
use Rattle.gs_skew.proofs.Greatest.{greatest_at_most}
use Rattle.gs_run.specs.Net.{Net}
use Rattle.gs_run.specs.Nets.{net_of}
use Rattle.gs_run.specs.Run.{ends}
use Rattle.gs_run.specs.World.{World, clocks_in, world_at_start}
use Rattle.gs_run.proofs.Keeping.{nowhere}
use Rattle.gs_run.proofs.PlanBounds.{ends_are_within}
use Rattle.gs_world.specs.RunReports.{ReportsKeepBounds}
use Rattle.gs_run.specs.Headline.{IsWithinPlan}

-- the ends of an edge are nodes that are neighbours
edge_joins : (g : Graph) (k : ℕ) (d : ℕ × ℕ) → k < length g.edges
    → Adjacent g (get_or g.edges k d).0 (get_or g.edges k d).1
edge_joins g k d h =
    let e : ℕ × ℕ = get_or g.edges k d in
    list_any_at (λ x. joins x e.0 e.1) g.edges k d h (rw (eq-eqb e.0 e.0 refl, eq-eqb e.1 e.1 refl) refl)

-- no neighbour skew is above local(s) in a world within its plan
near_within : (p : Plan) (s : ℕ) (w : World) → IsWithinPlan p w
    → neighbour_skew (graph_of p).edges (clocks_in (net_of p) w) ≤ local_in (text_of p) (graph_of p) s
near_within p s w within =
    let g : Graph = graph_of p in
    greatest_at_most (edge_skew (clocks_in (net_of p) w)) g.edges (local_in (text_of p) g s) (λ k d h.
    let e : ℕ × ℕ = get_or g.edges k d in
    within.any_edge s e.0 e.1 (edge_joins g k d h))

-- where all is allowed, no number of the report is above its bound
pub reports_keep_bounds : ReportsKeepBounds
reports_keep_bounds p hw l0 es allowed =
    let t : PlanText = text_of p in
    let g : Graph = graph_of p in
    let net : Net = net_of p in
    let total : List World = ends net (world_at_start net hw l0) es in
    let rows : List (List ℕ) = map (clocks_in net) total in
    let each : All (IsWithinPlan p) total = ends_are_within p hw l0 es allowed in
    let globals : All (λ row. global_skew row ≤ global_in t g) rows =
    All-map (λ row. global_skew row ≤ global_in t g) (clocks_in net) total (λ k d h. (each k d h).global) in
    let nears : (s : ℕ) → All (λ row. neighbour_skew g.edges row ≤ local_in t g s) rows = λ s.
    All-map (λ row. neighbour_skew g.edges row ≤ local_in t g s) (clocks_in net) total (λ k d h.
    near_within p s (get_or total k d) (each k d h)) in
    record {
      global = greatest_at_most global_skew rows (global_in t g) globals;
      near = λ s. greatest_at_most (neighbour_skew g.edges) rows (local_in t g s) (nears s);
      levels = λ s d h.
          let last : ℕ = length rows - 1 in
          let row : List ℕ = get_or rows last [] in
          let count : length rows ≡ length total = length-map total (clocks_in net) in
          let inside : last < length total = omega (arith, count) in
          let is : row ≡ clocks_in net (get_or total last nowhere) =
          get_or-map (clocks_in net) total last nowhere [] inside in
          let peak : ℕ → Peak = peak_of (weight_in t g) row in
          let few : s < t.levels + 1 = rw (length-map-range_with_len peak 0 (t.levels + 1)) at h in
          let there = get_or-map-range_with_len peak 0 (t.levels + 1) s s d few (omega arith) in
          rw (there, is) ((each last nowhere inside).potentials s);
    }
