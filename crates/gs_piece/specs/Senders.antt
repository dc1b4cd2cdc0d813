-- Which nodes sent anything in a window.
use Rattle.std.specs.Prelude.{ℕ, ◌<◌, ◌≤◌, []}
use Rattle.gs_run.specs.Net.{Net}
use Rattle.gs_calendar.specs.Course.{Course}
use Rattle.gs_seat.specs.Held.{AreSentIn}

-- Of the nodes a to b - 1 none from u on sent anything in the window from quantum m to t.
abbrev pub NoneSends : Net → Course → ℕ → ℕ → ℕ → ℕ → ℕ → Type 0
NoneSends net c u a b m t = (x : ℕ) → u ≤ x → a ≤ x → x < b → AreSentIn net c x m t []

-- Of these nodes from u on, v is the first that did.
pub record IsFirstSender (net : Net) (c : Course) (u a b m t v : ℕ) : Type 0 where
  pub from : u ≤ v
  pub low : a ≤ v
  pub high : v < b
  pub none : NoneSends net c u a v m t
  pub some : AreSentIn net c v m t [] → ⊥
