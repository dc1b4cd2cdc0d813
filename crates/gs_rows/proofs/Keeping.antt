-- The rows of an allowed run from equal clocks.
use Rattle.std.proofs.Common.{◌≡◌, ℕ, zero, suc, ◌+◌, ◌*◌, ◌<◌, ◌≤◌, arith, ap, refl, ◌∙◌, sym, subst, List, [], ◌∷◌, length, slice_index, slice_index_or}
use Rattle.gs_core.specs.declared.event.Event.{Event}
use Rattle.gs_core.specs.declared.event.Event.TheVariants.{Quantum, Tick, Deliver}
use Rattle.gs_plan.specs.declared.plan.Plan.{Plan}
use Rattle.gs_script.specs.Script.{Said}
use Rattle.gs_run.specs.Net.{Net}
use Rattle.gs_run.specs.Nets.{net_of}
use Rattle.gs_run.specs.Run.{Allowed, ends, later_ends}
use Rattle.gs_run.specs.World.{World, clocks_in, effect, world_from}
use Rattle.gs_run.specs.Accepted.{AreNumbers}
use Rattle.gs_run.proofs.Current.{reading_of, row_of, most_of}
use Rattle.gs_run.proofs.Greatest.{global_skew}
use Rattle.gs_run.proofs.Joined.{run_is_equal, run_is_history}
use Rattle.gs_run.proofs.Keeping.{nowhere, world_at}
use Rattle.gs_run.proofs.Levels.{history_keeps_levels}
use Rattle.gs_run.proofs.Moments.{row_members, run_grows, whole_run}
use Rattle.gs_run.proofs.PlanNumbers.{plan_has_numbers}
use Rattle.gs_run.proofs.Rows.{row_reached}
use Rattle.gs_run.proofs.Theorems.{clock_at as clock_in_row}
use Rattle.gs_calendar.specs.Course.{course_of}
use Rattle.gs_calendar.specs.Events.{events_of}
use Rattle.gs_calendar.specs.Scripts.{start_of}
use Rattle.gs_rows.specs.Row.{clock_at, row_at, rows_after, rows_from, rows_of_script, start_from, zeros_of}
use Rattle.gs_rows.specs.Steady.{AreSteady}
use Rattle.gs_calendar.proofs.Breaches.{unbreached_script_is_allowed}
use Rattle.gs_calendar.proofs.Fitting.{fits}
use Rattle.gs_rows.specs.Laws.{RowsAreSteady}
use Rattle.gs_rows.proofs.Staging.{ends_count, start_is, zero_clock}

after_at : (net : Net) (w : World) (es : List Event) (t : ℕ)
    → (row_at (rows_after net w es) t).clocks ≡ clocks_in net (slice_index_or (later_ends net w es) t nowhere)
after_at net w [] zero = refl
after_at net w [] (suc t) = refl
after_at net w (Quantum incs ∷ es) zero = refl
after_at net w (Quantum incs ∷ es) (suc t) = after_at net (effect net w (Quantum incs)) es t
after_at net w (Tick v ∷ es) zero = after_at net (effect net w (Tick v)) es zero
after_at net w (Tick v ∷ es) (suc t) = after_at net (effect net w (Tick v)) es (suc t)
after_at net w (Deliver from to seq ∷ es) zero = after_at net (effect net w (Deliver from to seq)) es zero
after_at net w (Deliver from to seq ∷ es) (suc t) = after_at net (effect net w (Deliver from to seq)) es (suc t)

-- the clocks of a row are those of the world at the quantum's end
pub rows_are : (net : Net) (w : World) (es : List Event) (t : ℕ)
    → (row_at (rows_from net w es) t).clocks ≡ clocks_in net (world_at (ends net w es) t)
rows_are net w es zero = refl
rows_are net w es (suc t) = after_at net w es t

-- and each clock is that of its node
pub clock_is : (net : Net) (hw clocks : ℕ → ℕ) (es : List Event) (t v : ℕ) → AreNumbers net
    → Allowed net (world_from net hw clocks) es → t ≤ length (later_ends net (world_from net hw clocks) es) → v < net.nodes
    → clock_at (rows_from net (world_from net hw clocks) es) t v ≡ row_of net (ends net (world_from net hw clocks) es) t v
clock_is net hw clocks es t v numbers allowed ht hv =
    let w : World = world_from net hw clocks in
    let members = row_members numbers (whole_run net hw clocks es allowed) t ht in
    ap (λ (l : List ℕ). slice_index l v) (rows_are net w es t)
    ∙ clock_in_row net (world_at (ends net w es) t) v (omega (arith, members, hv))

-- The rows of an allowed run from equal clocks are steady.
pub rows_are_steady : (net : Net) (hw clocks : ℕ → ℕ) (es : List Event) → AreNumbers net → ((v w : ℕ) → clocks v ≡ clocks w)
    → Allowed net (world_from net hw clocks) es
    → AreSteady net (rows_from net (world_from net hw clocks) es) (length (later_ends net (world_from net hw clocks) es))
rows_are_steady net hw clocks es numbers same allowed =
    let w0 : World = world_from net hw clocks in
    let total : List World = ends net w0 es in
    let last : ℕ = length (later_ends net w0 es) in
    let r = whole_run net hw clocks es allowed in
    let h = run_is_history numbers r in
    let equal = run_is_equal r same in
    let is : (t v : ℕ) → t ≤ last → v < net.nodes → clock_at (rows_from net w0 es) t v ≡ row_of net total t v =
    λ t v ht hv. clock_is net hw clocks es t v numbers allowed ht hv in
    record {
      skew = λ t v w ht hv hw.
          let a = is t v ht hv in
          let b = is t w ht hw in
          let g = global_skew net last (row_of net total) (reading_of total) (most_of net total) numbers h equal t v w ht hv hw in
          omega (arith, a, b, g);
      levels = λ s t v w ht hv hw.
          let a = is t v ht hv in
          let b = is t w ht hw in
          let g = history_keeps_levels net last (row_of net total) (reading_of total) (most_of net total) numbers h equal s t v w ht hv hw in
          omega (arith, a, b, g);
      rises = λ s t v le ht hv.
          let a = is s v (omega (arith, le, ht)) hv in
          let b = is t v ht hv in
          let g = row_reached net last (row_of net total) (reading_of total) (run_grows numbers r) v s t hv le ht in
          omega (arith, a, b, g);
    }

-- So are those of a script where all its events are allowed.
pub script_is_steady : (p : Plan) (s : Said) → Allowed (net_of p) (start_from (net_of p) (zeros_of (net_of p))) (events_of (net_of p) (course_of s))
    → AreSteady (net_of p) (rows_of_script p s (zeros_of (net_of p))) s.quanta
script_is_steady p s allowed =
    let net : Net = net_of p in
    let clocks : ℕ → ℕ = slice_index (zeros_of net) in
    let es : List Event = events_of net (course_of s) in
    let steady = rows_are_steady net clocks clocks es (plan_has_numbers p) (λ v w. zero_clock net v ∙ sym (zero_clock net w)) allowed in
    subst (λ (n : ℕ). AreSteady net (rows_of_script p s (zeros_of net)) n) (ends_count net (course_of s) (start_from net (zeros_of net))) steady

-- And those of a script without a breach.
pub scripts_are_steady : RowsAreSteady
scripts_are_steady p s same is none =
    let net : Net = net_of p in
    let allowed : Allowed net (start_of net) (events_of net (course_of s)) =
    unbreached_script_is_allowed net (course_of s) (plan_has_numbers p) (fits p s same is) none in
    script_is_steady p s (subst (λ (w : World). Allowed net w (events_of net (course_of s))) (sym (start_is net)) allowed)
