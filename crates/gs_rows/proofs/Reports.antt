-- The rows of a run are what its report is made of.
use Rattle.std.proofs.Common.{◌≡◌, ℕ, zero, suc, ◌+◌, arith, ap, refl, ◌∙◌, List, [], ◌∷◌, length, map}
use Rattle.gs_core.specs.declared.event.Event.{Event}
use Rattle.gs_core.specs.declared.event.Event.TheVariants.{Quantum, Tick, Deliver}
use Rattle.gs_plan.specs.declared.plan.Plan.{Plan}
use Rattle.gs_script.specs.Script.{Said}
use Rattle.gs_run.specs.Fast.{fast_in}
use Rattle.gs_run.specs.Net.{Net}
use Rattle.gs_run.specs.Nets.{net_of}
use Rattle.gs_run.specs.Run.{later_ends}
use Rattle.gs_run.specs.RunRows.{fast_of, rows_of}
use Rattle.gs_run.specs.World.{World, clocks_in, effect}
use Rattle.gs_calendar.specs.Course.{course_of}
use Rattle.gs_calendar.specs.Events.{events_of}
use Rattle.gs_rows.specs.Laws.{RowsAreReported}
use Rattle.gs_rows.specs.Row.{Row, fast_upto, row_at, rows_after, rows_from, rows_of_script, start_from}
use Rattle.gs_rows.proofs.Staging.{rows_long}

-- ---- clocks

later_clocks : (net : Net) (w : World) (es : List Event)
    → map (λ row. row.clocks) (rows_after net w es) ≡ map (clocks_in net) (later_ends net w es)
later_clocks net w [] = refl
later_clocks net w (Quantum incs ∷ es) =
    let z : World = effect net w (Quantum incs) in
    ap (λ (rows : List (List ℕ)). clocks_in net z ∷ rows) (later_clocks net z es)
later_clocks net w (Tick v ∷ es) = later_clocks net (effect net w (Tick v)) es
later_clocks net w (Deliver from to seq ∷ es) = later_clocks net (effect net w (Deliver from to seq)) es

pub clocks_are_rows : (net : Net) (w : World) (es : List Event)
    → map (λ row. row.clocks) (rows_from net w es) ≡ rows_of net w es
clocks_are_rows net w es = ap (λ (rows : List (List ℕ)). clocks_in net w ∷ rows) (later_clocks net w es)

-- ---- fast nodes

-- in the first n rows
abbrev fast_first : List Row → ℕ → ℕ
fast_first rows zero = 0
fast_first rows (suc n) = fast_first rows n + (row_at rows n).fast

upto_is_first : (now : Row) (rows : List Row) (t : ℕ) → fast_upto (now ∷ rows) t ≡ fast_first rows t
upto_is_first now rows zero = refl
upto_is_first now rows (suc t) = ap (λ (n : ℕ). n + (row_at rows t).fast) (upto_is_first now rows t)

first_and_rest : (now : Row) (rows : List Row) (n : ℕ) → fast_first (now ∷ rows) (suc n) ≡ now.fast + fast_first rows n
first_and_rest now rows zero = omega arith
first_and_rest now rows (suc n) =
    let more : ℕ = (row_at rows n).fast in
    let shift : now.fast + fast_first rows n + more ≡ now.fast + (fast_first rows n + more) = omega arith in
    ap (λ (x : ℕ). x + more) (first_and_rest now rows n) ∙ shift

fast_is : (net : Net) (w : World) (es : List Event)
    → fast_first (rows_after net w es) (length (rows_after net w es)) ≡ fast_of net w es
fast_is net w [] = refl
fast_is net w (Quantum incs ∷ es) =
    let z : World = effect net w (Quantum incs) in
    let now : Row = record { clocks = clocks_in net z; fast = fast_in w } in
    let rest : List Row = rows_after net z es in
    let long : length (now ∷ rest) ≡ suc (length rest) = omega arith in
    ap (fast_first (now ∷ rest)) long ∙ first_and_rest now rest (length rest)
    ∙ ap (λ (n : ℕ). fast_in w + n) (fast_is net z es)
fast_is net w (Tick v ∷ es) = fast_is net (effect net w (Tick v)) es
fast_is net w (Deliver from to seq ∷ es) = fast_is net (effect net w (Deliver from to seq)) es

-- The sum over all rows is that of the run.
pub fast_is_reported : (net : Net) (w : World) (es : List Event)
    → fast_upto (rows_from net w es) (length (rows_after net w es)) ≡ fast_of net w es
fast_is_reported net w es =
    upto_is_first (record { clocks = clocks_in net w; fast = 0 }) (rows_after net w es) (length (rows_after net w es))
    ∙ fast_is net w es

-- So it is of a script that is played to its end, from whatever clocks.
pub script_fast : (p : Plan) (s : Said) (l0s : List ℕ)
    → fast_upto (rows_of_script p s l0s) s.quanta
    ≡ fast_of (net_of p) (start_from (net_of p) l0s) (events_of (net_of p) (course_of s))
script_fast p s l0s =
    let net : Net = net_of p in
    let start : World = start_from net l0s in
    let es : List Event = events_of net (course_of s) in
    let long : s.quanta ≡ length (rows_after net start es) = rows_long net (course_of s) start in
    ap (fast_upto (rows_from net start es)) long ∙ fast_is_reported net start es

pub rows_are_reported : RowsAreReported
rows_are_reported net w es = (clocks_are_rows net w es, fast_is_reported net w es)
