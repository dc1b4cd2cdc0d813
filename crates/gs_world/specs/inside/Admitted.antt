-- What an admitted delivery has found: for private functions alone.
use Rattle.std.specs.Prelude.{◌≡◌, ℕ, ◌<◌, Some, None}
use Rattle.gs_core.specs.declared.event.Event.TheVariants.{Deliver}
use Rattle.gs_run.specs.Net.{Net, place_of}
use Rattle.gs_run.specs.Why.{why}
use Rattle.gs_run.specs.World.{World, Sent, sent_by}

-- a delivery is allowed, of this beacon, over the link at place i
pub record IsAdmitted (net : Net) (w : World) (from to seq i : ℕ) (s : Sent) : Type 0 where
  pub node : to < net.nodes
  pub place : place_of net to from ≡ Some i
  pub sent : sent_by w from seq ≡ Some s
  pub allowed : why net w (Deliver from to seq) ≡ None
