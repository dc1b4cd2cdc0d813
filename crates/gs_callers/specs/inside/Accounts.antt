-- For private functions and proofs: what a receiver has done with the items of its inlet.
use Rattle.std.specs.Prelude.{◌≡◌, ℕ, ◌≤◌, List, Option, Some}
use Rattle.gs_units.specs.declared.params.NodeParams.{NodeParams}
use Rattle.gs_beacon.specs.declared.beacon.Beacon.{Beacon}
use Rattle.gs_net.specs.Tales.{Tale}
use Rattle.gs_net.specs.declared.items.Item.{Item}
use Rattle.gs_board.specs.declared.told.Told.{Told}
use Rattle.gs_net.specs.Items.{datagrams}
use Rattle.gs_callers.specs.Items.{unwanted}
use Rattle.gs_callers.specs.Seats.{TakesWanted}

-- the wanted datagrams stand in the seat, but for one that is left out; the others were dropped; and so many came at least
pub record IsAccount (p : NodeParams) (neighbour : ℕ) (given : List Item) (entries : List Told) (left_out : Option Beacon) (count since : ℕ) : Type 0 where
  pub takes : TakesWanted p neighbour given entries left_out
  pub dropped : count ≡ unwanted p neighbour given
  pub came : since ≤ datagrams given

-- so it is where the inlet tells its items
abbrev pub Accounts : NodeParams → ℕ → Option Tale → List Told → Option Beacon → ℕ → ℕ → Type 0
Accounts p neighbour told entries left_out count since = (t : Tale) → told ≡ Some t
    → IsAccount p neighbour t.given entries left_out count since
