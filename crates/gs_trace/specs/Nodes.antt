-- The trace of a node.
use Rattle.std.specs.Prelude.{◌≡◌, ℕ, codes, ◌^◌, ◌<◌, ◌==◌, ◌||◌, not, Bool, false, nat_lt, nat_le, List, [], ◌∷◌, ◌++◌, take, drop, length, slice_index, All, Option, Some, None, is_some, if◌then◌else◌}
use Rattle.std.specs.Bool.{then_some}
use Rattle.std.specs.List.{flat_map}
use Rattle.byteorder.specs.Endian.{big_bytes, big_number}
use Rattle.gs_units.specs.FirstFault.{first_some}
use Rattle.gs_beacon.specs.Beacons.{IsBeacon, FitsFields, bytes_of, beacon_at, fault_of}
use Rattle.gs_beacon.specs.Numbers.{number_at}
use Rattle.gs_core.specs.declared.event.NodeEvent.{NodeEvent}
use Rattle.gs_core.specs.declared.event.NodeEvent.TheVariants.{Tick, Deliver}
use Rattle.gs_trace.specs.Starts.{FitsNode}
use Rattle.gs_trace.specs.Formats.{Format, fault_from, events_from}
use Rattle.gs_trace.specs.declared.fault.TraceFault.{TraceFault}
use Rattle.gs_trace.specs.declared.fault.TraceFault.TheVariants.{Header, Plan}
use Rattle.gs_trace.specs.declared.start.NodeStart.{NodeStart}

-- ---- what is written

-- the first eight bytes of a trace: the name of the format, its version 1, and 0
abbrev pub tag : List ℕ
tag = codes "GCSN" ++ big_bytes 2 1 ++ big_bytes 2 0

-- the head of a trace
abbrev pub head_bytes : ℕ → ℕ → NodeStart → List ℕ
head_bytes cluster node s = tag ++ big_bytes 4 cluster ++ big_bytes 4 node ++ big_bytes 8 s.l0 ++ big_bytes 8 s.hw

-- an event: its kind, its reading, and the beacon that comes
abbrev pub event_bytes : NodeEvent → List ℕ
event_bytes (Tick hw) = 1 ∷ [] ++ big_bytes 8 hw
event_bytes (Deliver hw b) = 2 ∷ [] ++ big_bytes 8 hw ++ bytes_of b

-- an event that can stand in the trace of a node: what comes is a beacon that a node may send
abbrev pub Fits : NodeEvent → Type 0
Fits (Tick hw) = hw < 2 ^ 64
Fits (Deliver hw b) = (hw < 2 ^ 64) × IsBeacon b × FitsFields b

-- The bytes are the trace of this start and these events, at this node of this cluster.
pub record SpellsNode (cluster node : ℕ) (s : NodeStart) (es : List NodeEvent) (bytes : List ℕ) : Type 0 where
  pub start : FitsNode s
  pub events : All Fits es
  pub is : bytes ≡ head_bytes cluster node s ++ flat_map event_bytes es

-- ---- what is read

-- the start that a head tells
abbrev pub start_at : List ℕ → NodeStart
start_at bytes = record { l0 = number_at 16 8 bytes; hw = number_at 24 8 bytes }

-- the first thing that is wrong with a head
abbrev pub head_fault : ℕ → ℕ → List ℕ → Option TraceFault
head_fault cluster node bytes = first_some (
    then_some (nat_lt (length bytes) 32 || not (number_at 0 8 bytes == big_number 8 tag)) Header
    ∷ then_some (nat_le (2 ^ 62) (number_at 16 8 bytes) || nat_le (2 ^ 62) (number_at 24 8 bytes)) Header
    ∷ then_some (not (number_at 8 4 bytes == cluster) || not (number_at 12 4 bytes == node)) Plan
    ∷ [])

-- how many bytes an event of a kind has
abbrev pub size_of : ℕ → Option ℕ
size_of kind = if kind == 1 then Some 9 else if kind == 2 then Some 49 else None

-- the bytes of the beacon that comes with a delivery
abbrev pub beacon_part : List ℕ → List ℕ
beacon_part bytes = take 40 (drop 9 bytes)

-- the event of a kind
abbrev pub event_of : ℕ → List ℕ → NodeEvent
event_of kind bytes =
    if kind == 1 then Tick (number_at 1 8 bytes) else Deliver (number_at 1 8 bytes) (beacon_at (beacon_part bytes))

-- the beacon of a delivery is refused
abbrev pub is_refused : ℕ → List ℕ → Bool
is_refused kind bytes = if kind == 2 then is_some (fault_of (beacon_part bytes)) else false

abbrev pub node_format : Format NodeEvent
node_format = record {
  size = size_of;
  event = λ bytes. event_of (slice_index bytes 0) bytes;
  refused = λ bytes. is_refused (slice_index bytes 0) bytes;
}

-- The first thing that keeps bytes from being the trace of this node of this cluster.
abbrev pub node_fault : ℕ → ℕ → List ℕ → Option TraceFault
node_fault cluster node bytes =
    first_some (head_fault cluster node bytes ∷ fault_from node_format 32 0 (drop 32 bytes) ∷ [])

-- the events that these bytes spell
abbrev pub node_events : List ℕ → List NodeEvent
node_events bytes = events_from node_format 0 bytes
