-- What a seat knows of the ways to its node.
use Rattle.std.specs.Prelude.{◌≡◌, ◌<◌, ◌≤◌, ℕ, false, List, Some, length, slice_index_or}
use Rattle.gs_run.specs.Net.{Net, neighbours, place_of}
use Rattle.gs_script.specs.declared.run.WayRun.{WayRun}
use Rattle.gs_calendar.specs.Course.{Course}
use Rattle.gs_calendar.specs.Transits.{Has}

-- of a way of which the script was not asked nothing is known
abbrev pub unasked : WayRun
unasked = record { delay = 0; is_lost = false; until = 0 }

-- what is known of the way from x to v holds of all that is sent after quantum a, up to its end
pub record Knows (c : Course) (x v a : ℕ) (w : WayRun) : Type 0 where
  pub delay : (q : ℕ) → a < q → q ≤ w.until → c.delay x v q ≡ w.delay
  pub lost : (q : ℕ) → a < q → q ≤ w.until → c.lost x v q ≡ w.is_lost

-- by the place of each neighbour x of v: what is known of its way holds of all that it sends after quantum `by x`
pub record HoldsWays (net : Net) (c : Course) (v : ℕ) (by : ℕ → ℕ) (ws : List WayRun) : Type 0 where
  pub count : length ws ≡ length (neighbours net v)
  pub way : (x i : ℕ) (d : WayRun) → Has x (neighbours net v) → place_of net v x ≡ Some i → Knows c x v (by x) (slice_index_or ws i d)
