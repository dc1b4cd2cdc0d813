-- Events over a script: when they begin and finish, and that their stamps agree with it.
use Rattle.std.specs.Prelude.{◌≡◌, ℕ, zero, suc, ◌+◌, ◌-◌, ◌*◌, ◌/◌, ◌%◌, ◌<◌, ◌≤◌, List, map, length, nat_lt, Option, Some, None, slice_index_or, if◌then◌else◌}
use Rattle.std.specs.List.{range_with_len}
use Rattle.std.specs.Option.{option_or}
use Rattle.gs_plan.specs.Plans.{graph_of}
use Rattle.gs_plan.specs.declared.plan.Plan.{Plan}
use Rattle.gs_script.specs.Script.{Said}
use Rattle.gs_run.specs.Nets.{net_of}
use Rattle.gs_rows.specs.Row.{clock_at, rows_of_script, zeros_of}
use Rattle.gs_order.specs.declared.timed.Timed.{Timed}
use Rattle.gs_order.specs.Waits.{wait_of}

-- the first of the k quanta after t at whose end a clock is above a mark
abbrev pub first_above : (ℕ → ℕ) → ℕ → ℕ → ℕ → Option ℕ
first_above clock mark t zero = None
first_above clock mark t (suc k) =
    option_or (first_above clock mark t k) (if nat_lt mark (clock (t + suc k)) then Some (t + suc k) else None)

-- the event that begins at the end of quantum t at node v, by the end of k quanta more
abbrev pub timed_from : (ℕ → ℕ → ℕ) → ℕ → ℕ → ℕ → ℕ → Timed
timed_from clock wait v t k =
    record { node = v; begun = t; stamp = clock t v; finished = first_above (λ u. clock u v) (clock t v + wait) t k }

-- event i, by the end of quantum t: it begins at the end of quantum (i+1)*every, at node i mod n
abbrev pub timed : (ℕ → ℕ → ℕ) → ℕ → ℕ → ℕ → ℕ → ℕ → Timed
timed clock wait n every t i = timed_from clock wait (i % n) ((i + 1) * every) (t - (i + 1) * every)

-- all events that begin by the end of quantum t
abbrev pub timed_upto : (ℕ → ℕ → ℕ) → ℕ → ℕ → ℕ → ℕ → List Timed
timed_upto clock wait n every t = map (timed clock wait n every t) (range_with_len 0 (t / every))

-- The events of a script.
abbrev pub order_of : Plan → Said → ℕ → List Timed
order_of p s every =
    timed_upto (clock_at (rows_of_script p s (zeros_of (net_of p)))) (wait_of p) (graph_of p).nodes every s.quanta

-- An event that has finished by the time that another begins has the lesser stamp.
abbrev pub AreOrdered : List Timed → Type 0
AreOrdered events = (i k t : ℕ) (d : Timed) → i < length events → k < length events
    → (slice_index_or events i d).finished ≡ Some t → t ≤ (slice_index_or events k d).begun
    → (slice_index_or events i d).stamp < (slice_index_or events k d).stamp
