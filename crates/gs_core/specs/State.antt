-- A core as contracts see it, and what a call does to it.
use Rattle.std.specs.Prelude.{◌≡◌, ℕ, ◌^◌, ◌<◌, ◌≤◌, Option, Some, None, IfSome, ⊤, length, All}
use Rattle.gs_units.specs.Params.{AreValid}
use Rattle.gs_units.specs.declared.params.NodeParams.{NodeParams}
use Rattle.gs_beacon.specs.Beacons.{IsBeacon}
use Rattle.gs_beacon.specs.declared.beacon.Beacon.{Beacon}
use Rattle.gs_estimate.specs.declared.slots.Heard.{Heard}
use Rattle.gs_core.specs.Node.{Node, ticked, delivered}
use Rattle.gs_core.specs.Steps.{Reply, tick_fault, tick_reply, deliver_fault, deliver_reply, fault_of, after, reply_of}
use Rattle.gs_core.specs.declared.event.NodeEvent.{NodeEvent}
use Rattle.gs_core.specs.declared.event.NodeEvent.TheVariants.{Tick, Deliver}
use Rattle.gs_core.specs.declared.reply.CoreFault.{CoreFault}
use Rattle.gs_core.specs.declared.reply.Reply.TheVariants as reply
use Rattle.gs_core.specs.declared.reply.Ticked.{Ticked}

-- a core as contracts see it: what its node was told, and what it keeps
pub record State : Type 0 where
  pub params : NodeParams
  pub node : Node

-- what is true of every node that runs with these parameters
pub record IsNode (p : NodeParams) (n : Node) : Type 0 where
  pub slots : length n.entries ≡ length p.links
  pub clock : n.l < 2 ^ 62
  pub clock_at : n.at ≤ n.last
  pub base : n.max.base < 2 ^ 62
  pub base_at : n.max.at ≤ n.last
  pub reading : n.last < 2 ^ 62
  pub count : n.ticks < p.every
  pub values : All (λ e. e.value < 2 ^ 62) n.entries
  pub heard : All (λ e. e.at ≤ n.last) n.entries

-- what is true of every core
pub record IsState (s : State) : Type 0 where
  pub valid : AreValid s.params
  pub runs : IsNode s.params s.node

-- the core took a tick at this reading and answered so
pub record Ticks (old new : State) (now : ℕ) (reply : Ticked) : Type 0 where
  pub allowed : tick_fault old.params old.node now ≡ None
  pub answer : reply ≡ tick_reply old.params old.node now
  pub state : new ≡ record old { node = ticked old.params old.node now }

-- the core took a beacon at this reading and answered so
pub record Delivers (old new : State) (b : Beacon) (now : ℕ) (reply : Heard) : Type 0 where
  pub allowed : deliver_fault old.params old.node b now ≡ None
  pub answer : reply ≡ deliver_reply old.params old.node b
  pub state : new ≡ record old { node = delivered old.params old.node b now }

-- the core took an event and answered so
pub record Takes (old new : State) (e : NodeEvent) (reply : Reply) : Type 0 where
  pub allowed : fault_of old.params old.node e ≡ None
  pub answer : reply ≡ reply_of old.params old.node e
  pub state : new ≡ record old { node = after old.params old.node e }

-- the core refused what has this fault, and is as it was
pub record Refuses (old new : State) (expected : Option CoreFault) (fault : CoreFault) : Type 0 where
  pub cause : expected ≡ Some fault
  pub unchanged : new ≡ old

-- a beacon that comes with the event is one that a node may send
abbrev pub CarriesBeacon : NodeEvent → Type 0
CarriesBeacon (Tick now) = ⊤
CarriesBeacon (Deliver now b) = IsBeacon b

-- so is one that the reply gives
abbrev pub GivesBeacon : Reply → Type 0
GivesBeacon (reply.Ticked t) = IfSome t.beacon IsBeacon
GivesBeacon (reply.Heard how) = ⊤
