-- Events under way, one quantum after another. These facts are for private functions and proofs.
use Rattle.std.specs.Prelude.{ℕ, ◌+◌, ◌-◌, ◌/◌, ◌%◌, ◌<◌, ◌≤◌, ◌==◌, ◌++◌, ◌∷◌, [], List, length, nat_lt, Some, None, IsSome, slice_index, slice_index_or, if◌then◌else◌}
use Rattle.std.specs.Option.{option_or}
use Rattle.gs_order.specs.declared.timed.Timed.{Timed}

-- what a further quantum, at whose end the clock of its node is this, makes of an event
abbrev pub after_row : ℕ → ℕ → ℕ → Timed → Timed
after_row wait t clock e =
    record e { finished = option_or e.finished (if nat_lt (e.stamp + wait) clock then Some t else None) }

abbrev pub after_clocks : ℕ → ℕ → List ℕ → Timed → Timed
after_clocks wait t clocks e = after_row wait t (slice_index clocks e.node) e

-- the event that begins at the end of quantum t, at which these are the clocks
abbrev pub begun_at : ℕ → ℕ → ℕ → List ℕ → Timed
begun_at every t n clocks =
    record { node = (t / every - 1) % n; begun = t; stamp = slice_index clocks ((t / every - 1) % n); finished = None }

-- with that event, where one begins then
abbrev pub with_due : ℕ → ℕ → ℕ → List ℕ → List Timed → List Timed
with_due every t n clocks events = if t % every == 0 then events ++ begun_at every t n clocks ∷ [] else events

-- so many events at the front have finished
pub record AreDone (events : List Timed) (done : ℕ) : Type 0 where
  pub inside : done ≤ length events
  pub finished : (k : ℕ) (d : Timed) → k < done → IsSome (slice_index_or events k d).finished
