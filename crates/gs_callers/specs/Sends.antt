-- What the timer of a node sends.
use Rattle.std.specs.Prelude.{◌≡◌, ℕ, List, [], length, map, take, Option, Some, None}
use Rattle.std.specs.List.{filter_map, flat_map}
use Rattle.gs_units.specs.declared.params.Link.{Link}
use Rattle.gs_beacon.specs.Beacons.{bytes_of}
use Rattle.gs_beacon.specs.declared.beacon.Beacon.{Beacon}
use Rattle.gs_core.specs.declared.reply.Ticked.{Ticked}
use Rattle.gs_board.specs.declared.told.Told.{Told}

-- a datagram, once for each neighbour in the order of the links
abbrev pub to_each : List Link → List ℕ → List (ℕ × List ℕ)
to_each links bytes = map (λ link. (link.node, bytes)) links

-- the beacon of a tick, so sent
abbrev pub sends_by : List Link → Option Beacon → List (ℕ × List ℕ)
sends_by links None = []
sends_by links (Some b) = to_each links (bytes_of b)

-- the beacon that an entry's tick gave
abbrev pub beacon_in : Option Ticked → Option Beacon
beacon_in None = None
beacon_in (Some reply) = reply.beacon

-- the beacons that the ticks of these entries gave
abbrev pub beacons_given : List Told → List Beacon
beacons_given entries = filter_map (λ k. beacon_in k.ticked) entries

-- all sends: each of these beacons in order, once for each neighbour
abbrev pub sends_of : List Link → List Told → List (ℕ × List ℕ)
sends_of links entries = flat_map (λ b. to_each links (bytes_of b)) (beacons_given entries)

-- where the outlet tells what it has taken, that is all of these sends
abbrev pub SentAll : List Link → List Told → Option (List (ℕ × List ℕ)) → Type 0
SentAll links entries sent = (taken : List (ℕ × List ℕ)) → sent ≡ Some taken → taken ≡ sends_of links entries

-- or the first of them
abbrev pub SentSoFar : List Link → List Told → Option (List (ℕ × List ℕ)) → Type 0
SentSoFar links entries sent = (taken : List (ℕ × List ℕ)) → sent ≡ Some taken
    → taken ≡ take (length taken) (sends_of links entries)
