-- Playing on, event by event. These facts are for private functions and proofs.
use Rattle.std.specs.Prelude.{◌≡◌, ℕ, ◌+◌, List, [], ◌∷◌, ◌++◌, Option, Some, None, IfNone, option_to_list, length}
use Rattle.gs_core.specs.declared.event.Event.{Event}
use Rattle.gs_run.specs.Net.{Net}
use Rattle.gs_run.specs.World.{World, clocks_in}
use Rattle.gs_calendar.specs.Breach.{first_breach}
use Rattle.gs_calendar.specs.Calm.{Calm}
use Rattle.gs_rows.specs.Row.{Row, rows_after}

-- an event that is held comes before those of the feed
abbrev pub left_of : Option Event → List Event → List Event
left_of held feed = option_to_list held ++ feed

-- the row that an event leaves, if it is a quantum
abbrev pub row_left : Net → World → Option ℕ → List Row
row_left net w None = []
row_left net w (Some fast) = record { clocks = clocks_in net w; fast = fast } ∷ []

-- From the world w, with these events left, the play came to the world z with those left. It passed a quantum where
-- `passed` has how many nodes took it in fast mode, and else none, and then no clock changed.
pub record GoesOn (net : Net) (w : World) (left : List Event) (passed : Option ℕ) (z : World) (rest : List Event) : Type 0 where
  pub calm : Calm net z rest
  pub breach : first_breach net w left ≡ first_breach net z rest
  pub rows : rows_after net w left ≡ row_left net z passed ++ rows_after net z rest
  pub quanta : z.quanta ≡ w.quanta + length (option_to_list passed)
  pub members : length z.members ≡ net.nodes
  pub clocks : IfNone passed (clocks_in net z ≡ clocks_in net w)
