-- What a board keeps beside its clock, and what is true of it at every moment.
use Rattle.std.specs.Prelude.{◌≡◌, ℕ, ◌+◌, ◌-◌, ◌≤◌, Bool, false, true, All, List, [], ◌∷◌, ◌++◌, length, Option, Some, None}
use Rattle.std.specs.Coded.{Unit-prop}
use Rattle.std.proofs.Props.{props}
use Rattle.gs_units.specs.Params.{AreValid}
use Rattle.gs_units.specs.declared.params.NodeParams.{NodeParams}
use Rattle.gs_core.specs.Node.{started}
use Rattle.gs_core.specs.declared.reply.Reply.{Reply}
use Rattle.gs_core.specs.Steps.{Replayed, Whole, after, reply_of, replay}
use Rattle.gs_core.specs.State.{State, CarriesBeacon}
use Rattle.gs_core.specs.declared.event.NodeEvent.{NodeEvent}
use Rattle.gs_core.specs.declared.event.NodeEvent.TheVariants.{Tick, Deliver}
use Rattle.gs_trace.specs.Starts.{FitsNode}
use Rattle.gs_trace.specs.declared.start.NodeStart.{NodeStart}
use Rattle.gs_board.specs.declared.faults.Halt.{Halt}
use Rattle.gs_board.specs.declared.faults.Halt.TheVariants as halt

-- A node and its start; the events that it took since, and its reply to each; for how many more there is room; whether
-- the board is closed, and the halt that closed it, if one did; and whose seats were issued, the timer's being None.
pub record Ledger : Type 0 where
  pub core : State
  pub begun : NodeStart
  pub journal : List NodeEvent
  pub replies : List Reply
  pub spare : ℕ
  pub closed : Bool
  pub halt : Option Halt
  pub issued : List (Option ℕ)

-- a board of these parameters at its start
abbrev pub opened : NodeParams → NodeStart → Ledger
opened p s = record {
  core = record { params = p; node = started p s.hw s.l0 };
  begun = s;
  journal = [];
  replies = [];
  spare = 0;
  closed = false;
  halt = None;
  issued = [];
}

-- the replay of the journal from the start
abbrev pub replay_of : Ledger → Replayed
replay_of t = replay t.core.params 0 (started t.core.params t.begun.hw t.begun.l0) t.journal

-- What is true of every board: its node and its replies are those of the replay of its journal, which has no fault.
pub record IsKept (t : Ledger) : Type 0 where
  pub replayed : replay_of t ≡ Whole t.core.node t.replies
  pub valid : AreValid t.core.params
  pub begun : FitsNode t.begun
  pub beacons : All CarriesBeacon t.journal
  pub room : length t.journal + t.spare ≤ 4194304
  pub unhalted : t.closed ≡ false → t.halt ≡ None

-- For the ghost field of a board: these are facts, of which there is one proof.
CarriesBeacon-prop : (e : NodeEvent) → IsProp (CarriesBeacon e)
CarriesBeacon-prop (Tick now) = Unit-prop
CarriesBeacon-prop (Deliver now b) = hlevel props

pub IsKept-prop : (t : Ledger) → IsProp (IsKept t)
IsKept-prop t = hlevel (props, CarriesBeacon-prop)

-- one event more, with its reply
abbrev pub grown : Ledger → NodeEvent → Ledger
grown t e = record t {
  core = record t.core { node = after t.core.params t.core.node e };
  journal = t.journal ++ e ∷ [];
  replies = t.replies ++ reply_of t.core.params t.core.node e ∷ [];
  spare = t.spare - 1;
}

-- closed, and nothing else
abbrev pub shut : Ledger → Ledger
shut t = record t { closed = true }

-- the halt of a clock that failed
abbrev pub clock_failed : Option Halt
clock_failed = Some halt.ClockFailed
