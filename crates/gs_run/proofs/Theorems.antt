-- The bounds of every allowed run from equal clocks, at each quantum's end and at every moment.
use Rattle.std.proofs.Common.{◌≡◌, ℕ, zero, suc, ◌+◌, ◌*◌, ◌<◌, ◌≤◌, arith, ap, ◌∙◌, refl, List, [], ◌∷◌, length, take, slice_index, subst}
use Rattle.std.proofs.lemmas.List.{get_or-map, length-map}
use Rattle.gs_core.specs.Node.{clock_of}
use Rattle.gs_core.specs.declared.event.Event.{Event}
use Rattle.gs_run.specs.Net.{Net, Adjacent, skew_of, level_of}
use Rattle.gs_run.specs.World.{World, nobody, member, effect, clock_in, clocks_in, world_from, world_at_start}
use Rattle.gs_run.specs.Run.{run, Allowed}
use Rattle.gs_run.specs.Bounds.{Bounded, AreMaxima}
use Rattle.gs_run.specs.Budget.{Watched}
use Rattle.gs_run.specs.Accepted.{AreNumbers}
use Rattle.gs_run.proofs.Pairs.{global_skew_within, potential_within, skew_between_within}
use Rattle.gs_run.proofs.Greatest.{lag, global_skew as global_skew_kept}
use Rattle.gs_run.proofs.Levels.{history_keeps_levels, history_keeps_edges}
use Rattle.gs_run.proofs.Keeping.{Holds, run_watched}
use Rattle.gs_run.proofs.Current.{row_of, reading_of, most_of}
use Rattle.gs_run.proofs.Dates.{maximum_reached}
use Rattle.gs_run.proofs.Moments.{IsRun, start, run_grows, DatedInside, whole_run, run_of_watched, last_moment}
use Rattle.gs_run.proofs.Joined.{run_is_history, run_is_equal}

-- the clock of each node is that of its place
pub clock_at : (net : Net) (w : World) (v : ℕ) → v < length w.members
    → slice_index (clocks_in net w) v ≡ clock_in net w v
clock_at net w v hv = get_or-map (λ m. clock_of net.rate m.node m.reading) w.members v nobody 0 hv

pub clock_count : (net : Net) (w : World) → length (clocks_in net w) ≡ length w.members
clock_count net w = length-map w.members (λ m. clock_of net.rate m.node m.reading)

-- Clocks that are those of a row are bounded.
pub row_bounded : {net : Net} {hw clocks : ℕ → ℕ} {es : List Event} {total : List World} {last : ℕ}
    → AreNumbers net → ((v w : ℕ) → clocks v ≡ clocks w) → IsRun net hw clocks es total last
    → (w : World) (t : ℕ) → t ≤ last → length w.members ≡ net.nodes
    → ((v : ℕ) → v < net.nodes → clock_in net w v ≡ row_of net total t v) → Bounded net w
row_bounded {net} {hw} {clocks} {es} {total} {last} numbers same r w t ht members is =
    let equal = run_is_equal r same in
    let h = run_is_history numbers r in
    let row : ℕ → ℕ → ℕ = row_of net total in
    let reading : ℕ → ℕ → ℕ = reading_of total in
    let most : ℕ → ℕ → ℕ = most_of net total in
    let at : List ℕ = clocks_in net w in
    let count : length at ≡ net.nodes = clock_count net w ∙ members in
    let clock : (v : ℕ) → v < net.nodes → slice_index at v ≡ row t v =
    λ v hv. clock_at net w v (rw members hv) ∙ is v hv in
    let edge : (s v x : ℕ) → v < net.nodes → x < net.nodes → Adjacent net v x
    → slice_index at x ≤ slice_index at v + (2 * s * net.kappa v x + level_of net s) =
    λ s v x hv hx next.
    let a = clock v hv in
    let b = clock x hx in
    let g = history_keeps_edges net last row reading most numbers h equal s t v x ht hv hx next in
    omega (arith, a, b, g) in
    record {
      global = global_skew_within at (skew_of net) (λ v x hv hx.
          let nv : v < net.nodes = rw count at hv in
          let nx : x < net.nodes = rw count at hx in
          let a = clock v nv in
          let b = clock x nx in
          let g = global_skew_kept net last row reading most numbers h equal t v x ht nv nx in
          omega (arith, a, b, g));
      levels = λ s. potential_within net.weight at s (level_of net s) (λ v x hv hx.
          let nv : v < net.nodes = rw count at hv in
          let nx : x < net.nodes = rw count at hx in
          let a = clock v nv in
          let b = clock x nx in
          let g = history_keeps_levels net last row reading most numbers h equal s t v x ht nv nx in
          omega (arith, a, b, g));
      edges = λ s v x hv hx next.
          let there = edge s v x hv hx next in
          let back = edge s x v hx hv (numbers.both_ways v x next) in
          let turned : 2 * s * net.kappa x v ≡ 2 * s * net.kappa v x =
          ap (λ (k : ℕ). 2 * s * k) (numbers.same_kappa x v) in
          skew_between_within at v x (2 * s * net.kappa v x + level_of net s) there (omega (arith, back, turned));
    }

-- So is the world at each moment, with its maxima.
moment_bounded : {net : Net} {hw clocks : ℕ → ℕ} {es : List Event} {total : List World} {last : ℕ}
    → AreNumbers net → ((v w : ℕ) → clocks v ≡ clocks w) → IsRun net hw clocks es total last
    → (x : Watched) → Holds net (DatedInside net total last) x → Bounded net x.world × AreMaxima net x.world
moment_bounded {net} {hw} {clocks} {es} {total} {last} numbers same r x holds =
    let equal = run_is_equal r same in
    let h = run_is_history numbers r in
    let t : ℕ = x.world.quanta in
    let inside : t ≤ last = (holds.each 0 numbers.some).0 in
    let clock : (v : ℕ) → v < net.nodes → clock_in net x.world v ≡ row_of net total t v =
    λ v hv. (holds.each v hv).1.current.clock in (
      row_bounded numbers same r x.world t inside holds.members clock,
      record {
        never_ahead = λ v hv.
            let k = (holds.each v hv).1 in
            let top =
            maximum_reached net total last (run_grows numbers r) t v (member x.world v) inside hv k.current k.base in
            let reached = top.2 in
            let c = clock top.0 top.1 in
            (top.0, top.1, omega (arith, reached, c));
        lags = λ v w hv hw'.
            let m = (holds.each v hv).1.current.maximum in
            let c = clock w hw' in
            let l =
            lag net last (row_of net total) (reading_of total) (most_of net total) numbers h equal t v w inside hv hw' in
            omega (arith, c, m, l);
      },
    )

-- After every allowed list of events from one clock all clocks keep their bounds, and all maxima theirs.
pub allowed_is_bounded : (net : Net) (hw clocks : ℕ → ℕ) (es : List Event) → AreNumbers net
    → ((v w : ℕ) → clocks v ≡ clocks w) → Allowed net (world_from net hw clocks) es
    → Bounded net (run net (world_from net hw clocks) es) × AreMaxima net (run net (world_from net hw clocks) es)
allowed_is_bounded net hw clocks es numbers same allowed =
    let r = whole_run net hw clocks es allowed in
    let P : World → Type 0 = λ w. Bounded net w × AreMaxima net w in
    subst P (run_of_watched net (start net hw clocks) es)
    (moment_bounded numbers same r (run_watched net (start net hw clocks) es) (last_moment numbers r))

-- each front of an allowed list is allowed
pub allowed_front : (net : Net) (w : World) (es : List Event) (i : ℕ) → Allowed net w es → Allowed net w (take i es)
allowed_front net w [] zero a = a
allowed_front net w [] (suc i) a = a
allowed_front net w (e ∷ es) zero a = tt
allowed_front net w (e ∷ es) (suc i) a = (a.0, allowed_front net (effect net w e) es i a.1)

-- So the bounds hold at every moment of it.
pub always_bounded : (net : Net) (hw : List ℕ) (l0 : ℕ) (es : List Event) → AreNumbers net
    → Allowed net (world_at_start net hw l0) es
    → (i : ℕ)
    → Bounded net (run net (world_at_start net hw l0) (take i es)) × AreMaxima net (run net (world_at_start net hw l0) (take i es))
always_bounded net hw l0 es numbers allowed i =
    allowed_is_bounded net (slice_index hw) (λ v. l0) (take i es) numbers (λ v w. refl)
    (allowed_front net (world_at_start net hw l0) es i allowed)
