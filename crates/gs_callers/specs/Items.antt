-- Which of the items that came from an inlet are wanted.
use Rattle.std.specs.Prelude.{ℕ, Bool, is_some, List, Option, Some, None}
use Rattle.std.specs.List.{filter_map, sum_by}
use Rattle.gs_units.specs.declared.params.NodeParams.{NodeParams}
use Rattle.gs_beacon.specs.declared.beacon.Beacon.{Beacon}
use Rattle.gs_net.specs.declared.items.Item.{Item}
use Rattle.gs_net.specs.declared.items.Item.TheVariants.{Datagram, Quiet}
use Rattle.gs_callers.specs.Wanted.{wanted_beacon}

-- the beacon of an item, where it is a wanted datagram
abbrev pub wanted_item : NodeParams → ℕ → Item → Option Beacon
wanted_item p neighbour Quiet = None
wanted_item p neighbour (Datagram bytes) = wanted_beacon p neighbour bytes

-- the beacons of the wanted datagrams, in order
abbrev pub wanted : NodeParams → ℕ → List Item → List Beacon
wanted p neighbour items = filter_map (wanted_item p neighbour) items

abbrev pub one_if_none : Option Beacon → ℕ
one_if_none None = 1
one_if_none (Some b) = 0

abbrev pub one_unwanted : NodeParams → ℕ → Item → ℕ
one_unwanted p neighbour Quiet = 0
one_unwanted p neighbour (Datagram bytes) = one_if_none (wanted_beacon p neighbour bytes)

-- how many datagrams are not wanted
abbrev pub unwanted : NodeParams → ℕ → List Item → ℕ
unwanted p neighbour items = sum_by (one_unwanted p neighbour) items

abbrev pub is_wanted_item : NodeParams → ℕ → Item → Bool
is_wanted_item p neighbour item = is_some (wanted_item p neighbour item)
