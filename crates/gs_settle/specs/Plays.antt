-- A play from unequal clocks: where it starts, and how long each level was above its bound.
use Rattle.std.specs.Prelude.{ℕ, zero, suc, ◌+◌, ◌-◌, ◌*◌, ◌/◌, ◌<◌, ◌≤◌, max, nat_lt, List, map, slice_index_or, Option, Some, None, IfSome, if◌then◌else◌}
use Rattle.std.specs.List.{range_with_len}
use Rattle.gs_plan.specs.Plans.{bound_of, graph_of, text_of, weight_of}
use Rattle.gs_plan.specs.declared.plan.Plan.{Plan}
use Rattle.gs_skew.specs.Skews.{potential}
use Rattle.gs_script.specs.Script.{Said}
use Rattle.gs_run.specs.Nets.{net_of}
use Rattle.gs_run.specs.RunRows.{fast_of}
use Rattle.gs_calendar.specs.Course.{course_of}
use Rattle.gs_calendar.specs.Events.{events_of}
use Rattle.gs_rows.specs.Row.{Row, row_at, rows_of_script, start_from}
use Rattle.gs_settle.specs.Times.{AreSettled, level_time}

-- the clock of node v of n at the start: from 0 to gamma, in even steps
abbrev pub first_clock : ℕ → ℕ → ℕ → ℕ
first_clock gamma n v = gamma * v / max (n - 1) 1

abbrev pub first_clocks : ℕ → ℕ → List ℕ
first_clocks gamma n = map (first_clock gamma n) (range_with_len 0 n)

-- the rows of a script from these clocks
abbrev pub rows_from_gamma : Plan → Said → ℕ → List Row
rows_from_gamma p said gamma = rows_of_script p said (first_clocks gamma (graph_of p).nodes)

-- the greatest of the quanta 0 to t at whose end a number is above a bound
abbrev pub last_above : (ℕ → ℕ) → ℕ → ℕ → Option ℕ
last_above f bound zero = if nat_lt bound (f 0) then Some 0 else None
last_above f bound (suc t) = if nat_lt bound (f (suc t)) then Some (suc t) else last_above f bound t

-- the greatest of the quanta 0 to t at whose end the potential of level s is above its bound
abbrev pub last_of_level : Plan → List Row → ℕ → ℕ → Option ℕ
last_of_level p rows t s =
    last_above (λ u. potential (weight_of p) (row_at rows u).clocks s) (bound_of p s) t

-- that of each level
abbrev pub last_upto : Plan → List Row → ℕ → List (Option ℕ)
last_upto p rows t = map (last_of_level p rows t) (range_with_len 0 ((text_of p).levels + 1))

-- over all quanta of a script from these clocks, the nodes that take each in fast mode
abbrev pub fast_from_gamma : Plan → Said → ℕ → ℕ
fast_from_gamma p said gamma =
    fast_of (net_of p) (start_from (net_of p) (first_clocks gamma (graph_of p).nodes)) (events_of (net_of p) (course_of said))

-- at the end of each quantum of a script from these clocks, each level holds from its time on
abbrev pub PlaySettles : Plan → Said → ℕ → Type 0
PlaySettles p said gamma =
    (s t : ℕ) → t ≤ said.quanta → level_time (net_of p) gamma s ≤ t
    → AreSettled (net_of p) (row_at (rows_from_gamma p said gamma) t).clocks s

-- each level was above its bound only before its time
abbrev pub AreInTime : Plan → ℕ → List (Option ℕ) → Type 0
AreInTime p gamma last =
    (s : ℕ) → s ≤ (text_of p).levels → IfSome (slice_index_or last s None) (λ t. t < level_time (net_of p) gamma s)
