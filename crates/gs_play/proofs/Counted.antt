-- Rows and totals, one quantum more.
use Rattle.std.proofs.Common.{◌≡◌, ℕ, zero, suc, ◌+◌, ◌^◌, ◌<◌, ◌≤◌, arith, ap, sym, refl, ◌∙◌, List, [], ◌∷◌, ◌++◌, length, length-append, map, replicate}
use Rattle.std.specs.List.{range_with_len}
use Rattle.std.proofs.lemmas.Grind.{same_number_lists}
use Rattle.std.proofs.lemmas.List.{get_or-replicate, length-map, length-replicate}
use Rattle.std.proofs.lemmas.List.FromFn.{get_or-map-range_with_len, length-map-range_with_len}
use Rattle.gs_core.specs.Node.{clock_of}
use Rattle.gs_plan.specs.Plans.{graph_of}
use Rattle.gs_plan.specs.declared.plan.Plan.{Plan}
use Rattle.gs_lookout.specs.Lookouts.{IsLookout}
use Rattle.gs_run.specs.Fast.{fast_in}
use Rattle.gs_run.specs.Net.{Net}
use Rattle.gs_run.specs.Nets.{net_of}
use Rattle.gs_run.specs.RunRows.{rows_of}
use Rattle.gs_run.specs.World.{clocks_in}
use Rattle.gs_calendar.specs.Course.{Course}
use Rattle.gs_calendar.specs.Events.{events_upto}
use Rattle.gs_calendar.specs.Scripts.{start_of}
use Rattle.gs_seat.specs.Worlds.{world_of}
use Rattle.gs_seat.proofs.Rows.{fast_next, rows_next}
use Rattle.gs_seat.proofs.Turning.{world_agrees}
use Rattle.gs_piece.specs.Columns.{clock_at}
use Rattle.gs_piece.proofs.Quanta.{start_clock}
use Rattle.gs_play.proofs.Gathered.{row_of_all}
use Rattle.gs_play.specs.inside.Totals.{AreTotals}
use Rattle.gs_play.specs.declared.totals.Totals.{Totals}

-- a row has a clock for each node
pub row_count : (net : Net) (c : Course) (t : ℕ) → length (clocks_in net (world_of net c t)) ≡ net.nodes
row_count net c t = length-map (world_of net c t).members (λ m. clock_of net.rate m.node m.reading) ∙ (world_agrees net c t).count

-- there is a row for the start and one for each quantum
pub rows_count : (net : Net) (c : Course) (t : ℕ) → length (rows_of net (start_of net) (events_upto net c t)) ≡ suc t
rows_count net c zero = refl
rows_count net c (suc t) =
    let before = rows_count net c t in
    let all = ap length (rows_next net c t) ∙ length-append (rows_of net (start_of net) (events_upto net c t)) (clocks_in net (world_of net c (suc t)) ∷ []) in
    omega (arith, before, all)

-- at the start all clocks are 0
pub first_row : (net : Net) (c : Course) → replicate net.nodes 0 ≡ clocks_in net (world_of net c 0)
first_row net c =
    let long = length-replicate net.nodes 0 in
    same_number_lists (replicate net.nodes 0) (map (clock_at net c 0) (range_with_len 0 net.nodes)) (long ∙ sym (length-map-range_with_len (clock_at net c 0) 0 net.nodes))
    (λ k h.
    let inside : k < net.nodes = omega (arith, h, long) in
    get_or-replicate net.nodes k 0 0 inside ∙ sym (get_or-map-range_with_len (clock_at net c 0) 0 net.nodes k k 0 inside (omega arith) ∙ start_clock net c k inside))
    ∙ row_of_all net c 0

pub totals_next : (p : Plan) (c : Course) (t fast : ℕ) (old new : Totals) → (are : AreTotals p c t old) → new.row.items ≡ clocks_in (net_of p) (world_of (net_of p) c (suc t))
    → IsLookout (graph_of p) (are.tallied.before ++ clocks_in (net_of p) (world_of (net_of p) c t) ∷ []) (clocks_in (net_of p) (world_of (net_of p) c (suc t))) new.lookout
    → new.fast ≡ old.fast + fast → fast ≡ fast_in (world_of (net_of p) c t) → fast ≤ 2 ^ 38 → AreTotals p c (suc t) new
totals_next p c t fast old new are row seen sum is small =
    let net = net_of p in
    record {
      tallied = record {
        before = are.tallied.before ++ clocks_in net (world_of net c t) ∷ [];
        rows = rows_next net c t ∙ ap (λ (rows : List (List ℕ)). rows ++ clocks_in net (world_of net c (suc t)) ∷ []) are.tallied.rows;
        is = seen;
      };
      row = row;
      fast = (let before = are.fast in let next = fast_next net c t in omega (arith, sum, is, before, next));
      few = (let few = are.few in omega (arith, few, sum, small));
    }
