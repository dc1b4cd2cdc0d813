-- What is stale among some nodes that follow one another.
use Rattle.std.specs.Prelude.{◌≡◌, ℕ, ◌<◌, ◌≤◌, Some, None}
use Rattle.gs_run.specs.Net.{Net}
use Rattle.gs_calendar.specs.Course.{Course}
use Rattle.gs_calendar.specs.Stale.{first_stale}

-- for none of the nodes a to b - 1 is quantum t not allowed
abbrev pub NoneIsStale : Net → Course → ℕ → ℕ → ℕ → Type 0
NoneIsStale net c a b t = (v : ℕ) → a ≤ v → v < b → first_stale net c t v ≡ None

-- the first of them for which it is not is v, for the neighbour at place i
pub record FirstIsStale (net : Net) (c : Course) (a b t v i : ℕ) : Type 0 where
  pub low : a ≤ v
  pub high : v < b
  pub none : NoneIsStale net c a v t
  pub stale : first_stale net c t v ≡ Some i
