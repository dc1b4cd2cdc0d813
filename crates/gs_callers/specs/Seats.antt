-- What a neighbour's seat says of the datagrams that were taken from its inlet.
use Rattle.std.specs.Prelude.{◌≡◌, ℕ, ◌≤◌, ◌⊎◌, true, is_some, List, [], ◌∷◌, ◌++◌, Option, Some, None}
use Rattle.std.specs.List.{filter_map}
use Rattle.gs_units.specs.declared.params.NodeParams.{NodeParams}
use Rattle.gs_beacon.specs.declared.beacon.Beacon.{Beacon}
use Rattle.gs_core.specs.declared.event.NodeEvent.{NodeEvent}
use Rattle.gs_core.specs.declared.event.NodeEvent.TheVariants.{Tick, Deliver}
use Rattle.gs_net.specs.Tales.{Tale}
use Rattle.gs_net.specs.declared.items.Item.{Item}
use Rattle.gs_board.specs.Slips.{Slip}
use Rattle.gs_board.specs.declared.told.Told.{Told}
use Rattle.gs_net.specs.Items.{datagrams, ends_in, is_quiet}
use Rattle.gs_callers.specs.Items.{is_wanted_item, unwanted, wanted}

-- the beacon that an event brings
abbrev pub brought_by : NodeEvent → Option Beacon
brought_by (Tick hw) = None
brought_by (Deliver hw b) = Some b

-- the beacons of a seat's entries
abbrev pub beacons_of : List Told → List Beacon
beacons_of entries = filter_map (λ k. brought_by k.event) entries

abbrev pub as_list : Option Beacon → List Beacon
as_list None = []
as_list (Some b) = b ∷ []

-- The beacons of the wanted datagrams are, in order, those of the entries. A last one may be left out: that of the item
-- taken last.
pub record TakesWanted (p : NodeParams) (neighbour : ℕ) (given : List Item) (entries : List Told) (left_out : Option Beacon) : Type 0 where
  pub delivered : wanted p neighbour given ≡ beacons_of entries ++ as_list left_out
  pub last : is_some left_out ≡ true → ends_in (is_wanted_item p neighbour) given ≡ true

-- so it is with a neighbour's seat and its inlet, where that tells its items
abbrev pub SeatAgrees : NodeParams → Slip → Option Tale → Type 0
SeatAgrees p s told = (neighbour : ℕ) (t : Tale) → s.whose ≡ Some neighbour → told ≡ Some t
    → (left_out : Option Beacon) × TakesWanted p neighbour t.given s.told left_out

-- why no more is taken: nothing is left, the last item was a quiet mark, the last one's beacon was left out, or many came
abbrev pub IsTaken : NodeParams → ℕ → Tale → List Told → Type 0
IsTaken p neighbour t entries = (t.left ≡ []) ⊎ ((ends_in is_quiet t.given ≡ true)
    ⊎ (((b : Beacon) × TakesWanted p neighbour t.given entries (Some b)) ⊎ (64 ≤ datagrams t.given)))

-- so it is with a neighbour's seat and its inlet, where that tells its items
abbrev pub SeatTaken : NodeParams → Slip → Option Tale → Type 0
SeatTaken p s told = (neighbour : ℕ) (t : Tale) → s.whose ≡ Some neighbour → told ≡ Some t → IsTaken p neighbour t s.told

-- how many of the datagrams taken from the inlet of this seat are not wanted, where it tells its items
abbrev pub unwanted_at : NodeParams → Option ℕ → Option Tale → Option ℕ
unwanted_at p None told = Some 0
unwanted_at p (Some neighbour) None = None
unwanted_at p (Some neighbour) (Some t) = Some (unwanted p neighbour t.given)

-- so many were dropped
abbrev pub Drops : NodeParams → Option ℕ → Option Tale → ℕ → Type 0
Drops p whose told n = (m : ℕ) → unwanted_at p whose told ≡ Some m → n ≡ m
