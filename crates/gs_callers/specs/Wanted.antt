-- Which datagrams a receiver delivers.
use Rattle.std.specs.Prelude.{◌≡◌, ℕ, ◌==◌, ◌&&◌, not, Bool, false, if◌then◌else◌, is_none, List, Option, Some, None}
use Rattle.gs_units.specs.declared.params.NodeParams.{NodeParams}
use Rattle.gs_beacon.specs.Beacons.{Spells, beacon_at, fault_of}
use Rattle.gs_beacon.specs.declared.beacon.Beacon.{Beacon}
use Rattle.gs_core.specs.Node.{link_place}
use Rattle.gs_core.specs.Steps.{is_ahead}

-- The datagram spells this beacon, which is of the node's cluster and the neighbour's own. What it tells stays below the
-- end of all clocks when it is raised for its way.
pub record IsWanted (p : NodeParams) (neighbour : ℕ) (bytes : List ℕ) (b : Beacon) : Type 0 where
  pub spells : Spells b bytes
  pub cluster : b.cluster ≡ p.cluster
  pub sender : b.sender ≡ neighbour
  pub near : is_ahead p b (link_place p neighbour) ≡ false

-- the beacon that bytes spell, if they spell one
unfoldable pub spelled_by : List ℕ → Option Beacon
spelled_by bytes = if is_none (fault_of bytes) then Some (beacon_at bytes) else None

-- whether a beacon that a datagram of this neighbour spells makes it a wanted one
abbrev pub is_wanted : NodeParams → ℕ → Beacon → Bool
is_wanted p neighbour b =
    ((b.cluster == p.cluster) && (b.sender == neighbour)) && not (is_ahead p b (link_place p neighbour))

abbrev pub only_wanted : NodeParams → ℕ → Option Beacon → Option Beacon
only_wanted p neighbour None = None
only_wanted p neighbour (Some b) = if is_wanted p neighbour b then Some b else None

-- the beacon of a datagram of this neighbour, where it is wanted
abbrev pub wanted_beacon : NodeParams → ℕ → List ℕ → Option Beacon
wanted_beacon p neighbour bytes = only_wanted p neighbour (spelled_by bytes)
