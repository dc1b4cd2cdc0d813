-- From clocks that differ: each level holds from its time on, after every allowed list of events.
use Rattle.std.proofs.Common.{◌≡◌, ℕ, ◌+◌, ◌*◌, ◌<◌, ◌≤◌, ◌∙◌, arith, ap, List, length, slice_index, subst}
use Rattle.std.proofs.Math.Nat.{mul-le-mul_left}
use Rattle.std.proofs.lemmas.List.{length-map}
use Rattle.gs_core.specs.Node.{clock_of}
use Rattle.gs_core.specs.declared.event.Event.{Event}
use Rattle.gs_run.specs.Accepted.{AreNumbers}
use Rattle.gs_run.specs.Budget.{Watched}
use Rattle.gs_run.specs.Net.{Net, Adjacent, level_of}
use Rattle.gs_run.specs.Run.{Allowed, run}
use Rattle.gs_run.specs.World.{World, clock_in, clocks_in, world_from}
use Rattle.gs_run.proofs.Current.{most_of, reading_of, row_of}
use Rattle.gs_run.proofs.Joined.{run_is_history}
use Rattle.gs_run.proofs.Keeping.{Holds, run_watched}
use Rattle.gs_run.proofs.Levels.{net_weighs}
use Rattle.gs_run.proofs.Moments.{DatedInside, IsRun, last_moment, run_of_watched, start, starts_at, whole_run}
use Rattle.gs_run.proofs.Pairs.{potential_within, skew_between_within}
use Rattle.gs_run.proofs.Start.{first_row}
use Rattle.gs_run.proofs.Theorems.{clock_at}
use Rattle.gs_settle.specs.Times.{AreSettled, level_time}
use Rattle.gs_settle.proofs.Falling.{RowWithin, settled_levels}

first_within : {net : Net} {hw clocks : ℕ → ℕ} {es : List Event} {total : List World} {last : ℕ} → (gamma : ℕ) → IsRun net hw clocks es total last
    → ((v w : ℕ) → v < net.nodes → w < net.nodes → clocks w ≤ clocks v + gamma) → RowWithin net (row_of net total 0) gamma
first_within gamma r near v w hv hw' =
    let s = starts_at r in
    let a = first_row s v hv in
    let b = first_row s w hw' in
    let n = near v w hv hw' in
    omega (arith, a, b, n)

-- clocks that are those of a row of such a run have settled
pub row_settled : {net : Net} {hw clocks : ℕ → ℕ} {es : List Event} {total : List World} {last : ℕ} → (gamma : ℕ) → AreNumbers net
    → IsRun net hw clocks es total last → ((v w : ℕ) → v < net.nodes → w < net.nodes → clocks w ≤ clocks v + gamma)
    → (w : World) (t s : ℕ) → t ≤ last → level_time net gamma s ≤ t → length w.members ≡ net.nodes
    → ((v : ℕ) → v < net.nodes → clock_in net w v ≡ row_of net total t v) → AreSettled net (clocks_in net w) s
row_settled {net} {hw} {clocks} {es} {total} {last} gamma numbers r near w t s ht late members is =
    let h = run_is_history numbers r in
    let at : List ℕ = clocks_in net w in
    let count : length at ≡ net.nodes = length-map w.members (λ m. clock_of net.rate m.node m.reading) ∙ members in
    let clock : (v : ℕ) → v < net.nodes → slice_index at v ≡ row_of net total t v =
    λ v hv. clock_at net w v (rw members hv) ∙ is v hv in
    let level : (v x : ℕ) → v < net.nodes → x < net.nodes → slice_index at x ≤ slice_index at v + 2 * s * net.weight v x + level_of net s =
    λ v x hv hx.
    let a = clock v hv in
    let b = clock x hx in
    let g = settled_levels net last (row_of net total) (reading_of total) (most_of net total) numbers h gamma (first_within gamma r near) s t v x late ht hv hx in
    omega (arith, a, b, g) in
    let weighs = net_weighs net numbers in
    let edge : (v x : ℕ) → v < net.nodes → x < net.nodes → Adjacent net v x → slice_index at x ≤ slice_index at v + (2 * s * net.kappa v x + level_of net s) =
    λ v x hv hx next.
    let itself = weighs.itself v hv in
    let near_weight = weighs.near v v x hv hv hx next in
    let least : net.weight v x ≤ net.kappa v x = omega (arith, near_weight, itself) in
    let more : 2 * s * net.weight v x ≤ 2 * s * net.kappa v x = mul-le-mul_left (2 * s) least in
    let g = level v x hv hx in
    omega (arith, g, more) in
    record {
      level = potential_within net.weight at s (level_of net s) (λ v x hv hx. level v x (rw count at hv) (rw count at hx));
      edges = λ v x hv hx next.
          let there = edge v x hv hx next in
          let back = edge x v hx hv (numbers.both_ways v x next) in
          let turned : 2 * s * net.kappa x v ≡ 2 * s * net.kappa v x = ap (λ (k : ℕ). 2 * s * k) (numbers.same_kappa x v) in
          skew_between_within at v x (2 * s * net.kappa v x + level_of net s) there (omega (arith, back, turned));
    }

watched_settles : {net : Net} {hw clocks : ℕ → ℕ} {es : List Event} {total : List World} {last : ℕ} → (gamma : ℕ) → AreNumbers net
    → IsRun net hw clocks es total last → ((v w : ℕ) → v < net.nodes → w < net.nodes → clocks w ≤ clocks v + gamma)
    → (x : Watched) → Holds net (DatedInside net total last) x → (s : ℕ) → level_time net gamma s ≤ x.world.quanta → AreSettled net (clocks_in net x.world) s
watched_settles gamma numbers r near x holds s late =
    row_settled gamma numbers r near x.world x.world.quanta s (holds.each 0 numbers.some).0 late holds.members
    (λ v hv. (holds.each v hv).1.current.clock)

-- After every allowed list of events, from clocks that differ by at most gamma, each level holds from its time on.
pub run_settles : (net : Net) (hw clocks : ℕ → ℕ) (gamma : ℕ) (es : List Event) → AreNumbers net
    → ((v w : ℕ) → v < net.nodes → w < net.nodes → clocks w ≤ clocks v + gamma)
    → Allowed net (world_from net hw clocks) es → (s : ℕ) → level_time net gamma s ≤ (run net (world_from net hw clocks) es).quanta
    → AreSettled net (clocks_in net (run net (world_from net hw clocks) es)) s
run_settles net hw clocks gamma es numbers near allowed s late =
    let r = whole_run net hw clocks es allowed in
    let x : Watched = run_watched net (start net hw clocks) es in
    let P : World → Type 0 = λ w. level_time net gamma s ≤ w.quanta → AreSettled net (clocks_in net w) s in
    subst P (run_of_watched net (start net hw clocks) es)
    (λ late. watched_settles gamma numbers r near x (last_moment numbers r) s late) late
