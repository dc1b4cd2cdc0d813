-- What the rows of an allowed run keep.
use Rattle.std.specs.Prelude.{ℕ, ◌+◌, ◌*◌, ◌<◌, ◌≤◌, List}
use Rattle.gs_run.specs.Net.{Net, level_of, skew_of}
use Rattle.gs_rows.specs.Row.{Row, clock_at}

-- Up to quantum `last` all clocks stay within the bounds of the levels, and no clock falls.
pub record AreSteady (net : Net) (rows : List Row) (last : ℕ) : Type 0 where
  pub skew : (t v w : ℕ) → t ≤ last → v < net.nodes → w < net.nodes
      → clock_at rows t w ≤ clock_at rows t v + skew_of net
  pub levels : (s t v w : ℕ) → t ≤ last → v < net.nodes → w < net.nodes
      → clock_at rows t w ≤ clock_at rows t v + 2 * s * net.weight v w + level_of net s
  pub rises : (s t v : ℕ) → s ≤ t → t ≤ last → v < net.nodes → clock_at rows s v ≤ clock_at rows t v
