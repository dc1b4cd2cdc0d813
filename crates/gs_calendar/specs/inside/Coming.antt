-- What a feed knows of the quanta to come. These facts are for private functions and proofs.
use Rattle.std.specs.Prelude.{◌≡◌, ℕ, ◌<◌, List, length, slice_index_or}
use Rattle.gs_script.specs.Lasts.{Lasts}
use Rattle.gs_run.specs.Net.{Net}
use Rattle.gs_calendar.specs.Course.{Course}
use Rattle.gs_calendar.specs.declared.ahead.Ahead.{Ahead}

-- this is what a script says of node v in quantum t, and it stays so
pub record IsAhead (c : Course) (v t : ℕ) (a : Ahead) : Type 0 where
  pub inc : Lasts (c.inc v) t a.inc.until a.inc.value
  pub gap : Lasts (c.gap v) t a.gap.until a.gap.value

-- the same of all nodes
pub record AreAhead (net : Net) (c : Course) (t : ℕ) (list : List Ahead) : Type 0 where
  pub count : length list ≡ net.nodes
  pub each : (v : ℕ) (d : Ahead) → v < net.nodes → IsAhead c v t (slice_index_or list v d)
