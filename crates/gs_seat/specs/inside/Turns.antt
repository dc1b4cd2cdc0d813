-- What a quantum is to a node alone. These facts are for private functions and proofs.
use Rattle.std.specs.Prelude.{◌≡◌, ◌-◌, ℕ, suc, nat_le, true, List, Some, None}
use Rattle.gs_beacon.specs.declared.beacon.Beacon.{Beacon}
use Rattle.gs_core.specs.Node.{beacon_of}
use Rattle.gs_run.specs.Net.{Net, params_of}
use Rattle.gs_calendar.specs.Calendar.{ticks, sent_at}
use Rattle.gs_calendar.specs.Course.{Course}
use Rattle.gs_seat.specs.Alone.{quantum_alone, CanHear, CanRead, CanTick}
use Rattle.gs_seat.specs.Letters.{Letter}
use Rattle.gs_seat.specs.Worlds.{part_at, part_begun, part_heard, WasSent}

-- What quantum t + 1 is to node v: these letters come, and v ticks where its gap is over.
pub record IsTurn (net : Net) (c : Course) (t v : ℕ) (bs : List Letter) : Type 0 where
  pub can_read : CanRead (part_begun net c t v)
  pub can_hear : CanHear (params_of net v) bs (part_begun net c t v)
  pub can_tick : CanTick (params_of net v) (part_heard net c t v bs)
  pub is : part_at net c (suc t) v
      ≡ quantum_alone (params_of net v) (suc t) (c.inc v (suc t)) (ticks net c v (suc t)) bs (part_at net c t v)
  pub ticks_is : ticks net c v (suc t) ≡ nat_le (c.gap v (suc t)) (suc t - (part_at net c t v).ticked_at)
  pub gives : (b : Beacon) → ticks net c v (suc t) ≡ true
      → beacon_of (params_of net v) (part_heard net c t v bs).node (part_heard net c t v bs).reading ≡ Some b
      → WasSent net c v (suc t) (record { quantum = suc t; beacon = b })
  pub none : ticks net c v (suc t) ≡ true
      → beacon_of (params_of net v) (part_heard net c t v bs).node (part_heard net c t v bs).reading ≡ None
      → sent_at net c v (suc t) ≡ None
