-- The trace of a world.
use Rattle.std.specs.Prelude.{◌≡◌, ℕ, codes, ◌+◌, ◌*◌, ◌^◌, ◌<◌, ◌==◌, ◌||◌, not, Bool, false, nat_lt, List, [], ◌∷◌, ◌++◌, drop, length, slice_index, All, Option, Some, None, if◌then◌else◌}
use Rattle.std.specs.Bool.{then_some}
use Rattle.std.specs.List.{flat_map, list_any}
use Rattle.byteorder.specs.Endian.{big_bytes, big_number}
use Rattle.gs_units.specs.FirstFault.{first_some}
use Rattle.gs_beacon.specs.Numbers.{number_at}
use Rattle.gs_core.specs.declared.event.Event.{Event}
use Rattle.gs_core.specs.declared.event.Event.TheVariants.{Quantum, Tick, Deliver}
use Rattle.gs_trace.specs.Numbers.{spelled, numbers_at}
use Rattle.gs_trace.specs.Starts.{FitsWorld}
use Rattle.gs_trace.specs.Formats.{Format, fault_from, events_from}
use Rattle.gs_trace.specs.declared.fault.TraceFault.{TraceFault}
use Rattle.gs_trace.specs.declared.fault.TraceFault.TheVariants.{Header, Plan}
use Rattle.gs_trace.specs.declared.start.WorldStart.{WorldStart}

-- ---- what is written

-- the first eight bytes of a trace: the name of the format, its version 1, and 0
abbrev pub tag : List ℕ
tag = codes "GCSW" ++ big_bytes 2 1 ++ big_bytes 2 0

-- the head of a trace
abbrev pub head_bytes : ℕ → ℕ → WorldStart → List ℕ
head_bytes cluster nodes s = tag ++ big_bytes 4 cluster ++ big_bytes 4 nodes ++ big_bytes 8 s.l0 ++ spelled 8 s.hw

-- an event: its kind, and what belongs to it
abbrev pub event_bytes : Event → List ℕ
event_bytes (Quantum incs) = 1 ∷ [] ++ spelled 4 incs
event_bytes (Tick v) = 2 ∷ [] ++ big_bytes 4 v
event_bytes (Deliver from to seq) = 3 ∷ [] ++ big_bytes 4 from ++ big_bytes 4 to ++ big_bytes 8 seq

-- an event that can stand in the trace of a world of so many nodes: a quantum has one increment for each node
abbrev pub Fits : ℕ → Event → Type 0
Fits nodes (Quantum incs) = (length incs ≡ nodes) × All (λ h. h < 2 ^ 32) incs
Fits nodes (Tick v) = v < 2 ^ 32
Fits nodes (Deliver from to seq) = (from < 2 ^ 32) × (to < 2 ^ 32) × (seq < 2 ^ 64)

-- The bytes are the trace of this start and these events, in a world of so many nodes of this cluster.
pub record SpellsWorld (cluster nodes : ℕ) (s : WorldStart) (es : List Event) (bytes : List ℕ) : Type 0 where
  pub start : FitsWorld nodes s
  pub events : All (Fits nodes) es
  pub is : bytes ≡ head_bytes cluster nodes s ++ flat_map event_bytes es

-- ---- what is read

-- the length of a head
abbrev pub head_length : ℕ → ℕ
head_length nodes = 24 + 8 * nodes

-- the start that a head tells
abbrev pub start_at : ℕ → List ℕ → WorldStart
start_at nodes bytes = record { l0 = number_at 16 8 bytes; hw = numbers_at 8 nodes (drop 24 bytes) }

-- a clock or a reading is too far for a start
abbrev pub is_far : ℕ → Bool
is_far x = nat_lt (2 ^ 61) x

-- the first thing that is wrong with a head
abbrev pub head_fault : ℕ → ℕ → List ℕ → Option TraceFault
head_fault cluster nodes bytes = first_some (
    then_some (nat_lt (length bytes) 16 || not (number_at 0 8 bytes == big_number 8 tag)) Header
    ∷ then_some (not (number_at 8 4 bytes == cluster) || not (number_at 12 4 bytes == nodes)) Plan
    ∷ then_some (nat_lt (length bytes) (head_length nodes)) Header
    ∷ then_some (is_far (number_at 16 8 bytes) || list_any is_far (numbers_at 8 nodes (drop 24 bytes))) Header
    ∷ [])

-- how many bytes an event of a kind has
abbrev pub size_of : ℕ → ℕ → Option ℕ
size_of nodes kind =
    if kind == 1 then Some (1 + 4 * nodes) else if kind == 2 then Some 5 else if kind == 3 then Some 17 else None

-- the event of a kind
abbrev pub event_of : ℕ → ℕ → List ℕ → Event
event_of nodes kind bytes =
    if kind == 1 then Quantum (numbers_at 4 nodes (drop 1 bytes))
    else if kind == 2 then Tick (number_at 1 4 bytes)
    else Deliver (number_at 1 4 bytes) (number_at 5 4 bytes) (number_at 9 8 bytes)

abbrev pub world_format : ℕ → Format Event
world_format nodes = record {
  size = size_of nodes;
  event = λ bytes. event_of nodes (slice_index bytes 0) bytes;
  refused = λ bytes. false;
}

-- The first thing that keeps bytes from being the trace of a world of so many nodes of this cluster.
abbrev pub world_fault : ℕ → ℕ → List ℕ → Option TraceFault
world_fault cluster nodes bytes = first_some (
    head_fault cluster nodes bytes
    ∷ fault_from (world_format nodes) (head_length nodes) 0 (drop (head_length nodes) bytes)
    ∷ [])

-- the events that these bytes spell
abbrev pub world_events : ℕ → List ℕ → List Event
world_events nodes bytes = events_from (world_format nodes) 0 bytes
