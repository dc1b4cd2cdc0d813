-- The worlds that allowed runs lead to.
use Rattle.std.specs.Prelude.{◌≡◌, ℕ, List}
use Rattle.gs_core.specs.declared.event.Event.{Event}
use Rattle.gs_run.specs.Net.{Net}
use Rattle.gs_run.specs.World.{World, world_from}
use Rattle.gs_run.specs.Run.{run, Allowed}
use Rattle.gs_run.specs.Accepted.{IsSmall}

-- Some allowed events lead here from some start. It is what the type of a world keeps.
pub record IsReachable (net : Net) (w : World) : Type 0 where
  pub hw : ℕ → ℕ
  pub clocks : ℕ → ℕ
  pub events : List Event
  pub small : IsSmall net hw clocks
  pub allowed : Allowed net (world_from net hw clocks) events
  pub is : w ≡ run net (world_from net hw clocks) events
