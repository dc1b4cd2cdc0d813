-- Rules 7 and 8 as steps: what keeps a node from an event, what it answers, and the replay of many events.
use Rattle.std.specs.Prelude.{ℕ, ◌+◌, ◌-◌, ◌^◌, ◌==◌, ◌||◌, ◌&&◌, not, Bool, false, nat_lt, nat_le, Option, Some, None, is_none, List, [], ◌∷◌}
use Rattle.std.specs.Bool.{then_some}
use Rattle.gs_units.specs.FirstFault.{first_some}
use Rattle.gs_units.specs.declared.params.NodeParams.{NodeParams}
use Rattle.gs_beacon.specs.declared.beacon.Beacon.{Beacon}
use Rattle.gs_estimate.specs.Entries.{entry_at, answer_of}
use Rattle.gs_estimate.specs.declared.slots.Heard.{Heard}
use Rattle.gs_estimate.specs.declared.slots.Heard.TheVariants.{Old}
use Rattle.gs_core.specs.Node.{Node, clock_of, maximum_of, decided_mode, is_due, beacon_of, ticked, link_place, link_at, delivered}
use Rattle.gs_core.specs.declared.event.NodeEvent.{NodeEvent}
use Rattle.gs_core.specs.declared.event.NodeEvent.TheVariants.{Tick, Deliver}
use Rattle.gs_core.specs.declared.reply.CoreFault.{CoreFault}
use Rattle.gs_core.specs.declared.reply.CoreFault.TheVariants.{Cluster, Stranger, Backward, Far, Ahead}
use Rattle.gs_core.specs.declared.reply.Reply.TheVariants as reply
use Rattle.gs_core.specs.declared.reply.Ticked.{Ticked}
pub use Rattle.gs_core.specs.declared.reply.Reply.{Reply}

-- a value is beyond the end of all clocks
abbrev pub is_end : ℕ → Bool
is_end x = nat_le (2 ^ 62) x

-- the reading, the clock or the maximum is
abbrev pub is_past : NodeParams → Node → ℕ → Bool
is_past p n now = (is_end now || is_end (clock_of p.rate n now)) || is_end (maximum_of p.rate n now)

-- what a beacon tells is, when it is raised for its way over the link at a place
abbrev pub is_ahead : NodeParams → Beacon → Option ℕ → Bool
is_ahead p b None = false
is_ahead p b (Some i) = is_end (b.l + (link_at p i).comp) || is_end (b.m + (link_at p i).jump)

-- why a reading is refused, whatever comes at it: the first that holds
abbrev pub reading_fault : NodeParams → Node → ℕ → Option CoreFault
reading_fault p n now =
    first_some (then_some (nat_lt now n.last) (Backward n.last now) ∷ then_some (is_past p n now) Far ∷ [])

-- why a tick is refused: its reading is, or the last sequence was given and a beacon is due
abbrev pub tick_fault : NodeParams → Node → ℕ → Option CoreFault
tick_fault p n now =
    first_some (reading_fault p n now ∷ then_some (is_due p n && (n.seq == 2 ^ 64 - 1)) Far ∷ [])

-- why a delivery is refused: the beacon is of a stranger, its reading is refused, or what it tells is too far ahead
abbrev pub deliver_fault : NodeParams → Node → Beacon → ℕ → Option CoreFault
deliver_fault p n b now = first_some (
    then_some (not (b.cluster == p.cluster)) Cluster
    ∷ then_some (is_none (link_place p b.sender)) (Stranger b.sender)
    ∷ reading_fault p n now
    ∷ then_some (is_ahead p b (link_place p b.sender)) Ahead
    ∷ [])

-- what a tick answers
abbrev pub tick_reply : NodeParams → Node → ℕ → Ticked
tick_reply p n now = record {
  l = clock_of p.rate n now;
  m = maximum_of p.rate n now;
  mode = decided_mode p n now;
  beacon = beacon_of p n now;
}

-- what a delivery over the link at a place answers, if there is one
abbrev pub answer_at : Node → Beacon → Option ℕ → Heard
answer_at n b None = Old
answer_at n b (Some i) = answer_of (entry_at n.entries i) b.seq

-- what a delivery answers
abbrev pub deliver_reply : NodeParams → Node → Beacon → Heard
deliver_reply p n b = answer_at n b (link_place p b.sender)

-- why an event is refused
abbrev pub fault_of : NodeParams → Node → NodeEvent → Option CoreFault
fault_of p n (Tick now) = tick_fault p n now
fault_of p n (Deliver now b) = deliver_fault p n b now

-- the node after an event that is not refused
abbrev pub after : NodeParams → Node → NodeEvent → Node
after p n (Tick now) = ticked p n now
after p n (Deliver now b) = delivered p n b now

-- what an event answers that is not refused
abbrev pub reply_of : NodeParams → Node → NodeEvent → Reply
reply_of p n (Tick now) = reply.Ticked (tick_reply p n now)
reply_of p n (Deliver now b) = reply.Heard (deliver_reply p n b)

-- the node after all events with all replies, or the place of the first event that is refused and why
pub data Replayed : Type 0 where
  Whole : Node → List Reply → Replayed
  Stopped : ℕ → CoreFault → Replayed

-- one reply goes before those of a replay
abbrev pub answering : Reply → Replayed → Replayed
answering reply (Whole n replies) = Whole n (reply ∷ replies)
answering reply (Stopped i fault) = Stopped i fault

-- stops at a fault, or goes on
abbrev pub unless_fault : Option CoreFault → ℕ → Replayed → Replayed
unless_fault (Some fault) i rest = Stopped i fault
unless_fault None i rest = rest

-- events in turn, where i events went before
abbrev pub replay : NodeParams → ℕ → Node → List NodeEvent → Replayed
replay p i n [] = Whole n []
replay p i n (e ∷ es) = unless_fault (fault_of p n e) i (answering (reply_of p n e) (replay p (i + 1) (after p n e) es))
