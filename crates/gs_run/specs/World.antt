-- The world: true readings, the states of all nodes and all beacons ever sent, and what an event does to them.
use Rattle.std.specs.Prelude.{ℕ, ◌+◌, List, [], ◌∷◌, ◌++◌, map, length, ◌==◌, Bool, Option, Some, None, find, slice_set, slice_index, slice_index_or, if◌then◌else◌}
use Rattle.std.specs.List.{zip, range_with_len}
use Rattle.gs_units.specs.declared.params.NodeParams.{NodeParams}
use Rattle.gs_units.specs.declared.rate.Mode.TheVariants.{Slow}
use Rattle.gs_beacon.specs.declared.beacon.Beacon.{Beacon}
use Rattle.gs_estimate.specs.Entries.{entry_at, is_fresh}
use Rattle.gs_core.specs.Node.{Node, started, clock_of, maximum_of, ticked, beacon_of, delivered}
use Rattle.gs_core.specs.declared.event.Event.{Event}
use Rattle.gs_core.specs.declared.event.Event.TheVariants.{Quantum, Tick, Deliver}
use Rattle.gs_run.specs.Net.{Net, params_of, neighbours, place_of}

-- a beacon that was sent, and the quantum that it was sent in
pub record Sent : Type 0 where
  pub quantum : ℕ
  pub beacon : Beacon

-- What the world holds of one node: its hardware reading, its state, the quantum of its last tick, all beacons that it
-- ever sent, and for each neighbour, in ascending order, the quantum in which the newest beacon heard from it was sent,
-- 0 at the start. The sequence of that beacon is the one that the node's entry keeps.
pub record Member : Type 0 where
  pub reading : ℕ
  pub node : Node
  pub ticked_at : ℕ
  pub sent : List Sent
  pub heard : List ℕ

-- rule 9: the count of quanta taken, and each node by its number
pub record World : Type 0 where
  pub quanta : ℕ
  pub members : List Member

-- no node
abbrev pub nobody : Member
nobody = record {
  reading = 0;
  node = record {
    l = 0;
    at = 0;
    mode = Slow;
    max = record { base = 0; at = 0 };
    entries = [];
    seq = 0;
    ticks = 0;
    last = 0;
  };
  ticked_at = 0;
  sent = [];
  heard = [];
}

abbrev pub member : World → ℕ → Member
member w v = slice_index_or w.members v nobody

-- a node's clock and its maximum now
abbrev pub clock_in : Net → World → ℕ → ℕ
clock_in net w v = clock_of net.rate (member w v).node (member w v).reading

abbrev pub maximum_in : Net → World → ℕ → ℕ
maximum_in net w v = maximum_of net.rate (member w v).node (member w v).reading

-- the clocks of all nodes now
abbrev pub clocks_in : Net → World → List ℕ
clocks_in net w = map (λ m. clock_of net.rate m.node m.reading) w.members

-- the beacon of this sender with this sequence
abbrev pub sent_by : World → ℕ → ℕ → Option Sent
sent_by w from seq = find (λ s. s.beacon.seq == seq) (member w from).sent

-- a beacon is newer than what was heard over the link at a place
abbrev pub is_newer : Member → ℕ → Sent → Bool
is_newer m i s = is_fresh (entry_at m.node.entries i) s.beacon.seq

-- ---- what an event does

abbrev pub with_member : World → ℕ → Member → World
with_member w v m = record w { members = slice_set w.members v m }

-- one quantum of a node whose hardware clock adds h
abbrev pub advanced : Member → ℕ → Member
advanced m h = record m { reading = m.reading + h }

-- rule 10
abbrev pub advance_all : World → List ℕ → World
advance_all w incs = record { quanta = w.quanta + 1; members = map (λ p. advanced p.0 p.1) (zip w.members incs) }

-- the beacons sent, with one more if there is one
abbrev pub sends : List Sent → ℕ → Option Beacon → List Sent
sends sent quantum None = sent
sends sent quantum (Some b) = sent ++ record { quantum = quantum; beacon = b } ∷ []

-- rule 11
abbrev pub ticked_member : NodeParams → ℕ → Member → Member
ticked_member p quantum m = record m {
  node = ticked p m.node m.reading;
  ticked_at = quantum;
  sent = sends m.sent quantum (beacon_of p m.node m.reading);
}

-- rule 12, over the link at place i
abbrev pub heard_member : NodeParams → ℕ → Sent → Member → Member
heard_member p i s m = record m {
  node = delivered p m.node s.beacon m.reading;
  heard = if is_newer m i s then slice_set m.heard i s.quantum else m.heard;
}

-- a delivery, if there is such an edge and such a beacon
abbrev pub deliver : Net → World → ℕ → Option ℕ → Option Sent → World
deliver net w to None None = w
deliver net w to None (Some s) = w
deliver net w to (Some i) None = w
deliver net w to (Some i) (Some s) = with_member w to (heard_member (params_of net to) i s (member w to))

-- What an event does, within its bounds or not. One that names no node, no edge or no beacon does nothing.
abbrev pub effect : Net → World → Event → World
effect net w (Quantum incs) = if length incs == length w.members then advance_all w incs else w
effect net w (Tick v) = with_member w v (ticked_member (params_of net v) w.quanta (member w v))
effect net w (Deliver from to seq) = deliver net w to (place_of net to from) (sent_by w from seq)

-- ---- the start

abbrev pub member_at_start : Net → ℕ → ℕ → ℕ → Member
member_at_start net v hw l0 = record {
  reading = hw;
  node = started (params_of net v) hw l0;
  ticked_at = 0;
  sent = [];
  heard = map (λ x. 0) (neighbours net v);
}

-- rule 14: the world at its start, from a reading and a clock for each node
abbrev pub world_from : Net → (ℕ → ℕ) → (ℕ → ℕ) → World
world_from net hw clocks = record {
  quanta = 0;
  members = map (λ v. member_at_start net v (hw v) (clocks v)) (range_with_len 0 net.nodes);
}

-- from a list of readings and a list of clocks
abbrev pub world_at_start_each : Net → List ℕ → List ℕ → World
world_at_start_each net hw l0s = world_from net (slice_index hw) (slice_index l0s)

-- from a list of readings and one clock
abbrev pub world_at_start : Net → List ℕ → ℕ → World
world_at_start net hw l0 = world_from net (slice_index hw) (λ v. l0)
