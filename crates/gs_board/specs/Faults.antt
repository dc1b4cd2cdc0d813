-- Why the calls of a board refuse, in order, and what each refusal leaves.
use Rattle.std.specs.Prelude.{◌≡◌, ℕ, ◌<◌, ◌≤◌, ◌^◌, ◌==◌, ◌&&◌, Bool, true, false, not, Option, Some, None, List, [], ◌∷◌, length, option_map}
use Rattle.std.specs.Bool.{then_some}
use Rattle.gs_units.specs.FirstFault.{first_some}
use Rattle.gs_units.specs.declared.params.NodeParams.{NodeParams}
use Rattle.gs_beacon.specs.declared.beacon.Beacon.{Beacon}
use Rattle.gs_estimate.specs.declared.slots.Heard.{Heard}
use Rattle.gs_core.specs.Steps.{tick_fault, tick_reply, deliver_fault, deliver_reply}
use Rattle.gs_core.specs.declared.event.NodeEvent.{NodeEvent}
use Rattle.gs_core.specs.declared.event.NodeEvent.TheVariants.{Tick, Deliver}
use Rattle.gs_core.specs.declared.reply.CoreFault.{CoreFault}
use Rattle.gs_core.specs.declared.reply.CoreFault.TheVariants as core
use Rattle.gs_core.specs.declared.reply.Ticked.{Ticked}
use Rattle.gs_io.specs.Causes.{Rose}
use Rattle.gs_clock.specs.Readings.{Reads}
use Rattle.gs_board.specs.Entries.{is_neighbour}
use Rattle.gs_board.specs.Ledger.{Ledger, grown}
use Rattle.gs_board.specs.declared.faults.BoardFault.{BoardFault}
use Rattle.gs_board.specs.declared.faults.BoardFault.TheVariants.{Closed, Full, Cluster, Stranger, ClockFailed, Fell, Far, Ahead}
use Rattle.gs_board.specs.declared.faults.BoardStop.{BoardStop}
use Rattle.gs_board.specs.declared.faults.BoardStop.TheVariants as stop
use Rattle.gs_board.specs.declared.faults.Halt.{Halt}
use Rattle.gs_board.specs.declared.faults.Halt.TheVariants as halt
use Rattle.gs_board.specs.declared.told.Receipt.{Receipt}

-- what refuses any event before the clock is read, the first that holds: the board is closed, or has no room
abbrev pub bar_of : Ledger → Option BoardFault
bar_of t = first_some (then_some t.closed Closed ∷ then_some (t.spare == 0) Full ∷ [])

-- the seat is this neighbour's
abbrev pub is_seat_of : Option ℕ → ℕ → Bool
is_seat_of None x = false
is_seat_of (Some y) x = y == x

-- the sender of a beacon is not the seat's neighbour, or no neighbour of the node
abbrev pub is_stranger : NodeParams → Option ℕ → ℕ → Bool
is_stranger p whose sender = not (is_seat_of whose sender && is_neighbour p sender)

-- what refuses a beacon before the clock is read
abbrev pub beacon_bar : NodeParams → Option ℕ → Beacon → Option BoardFault
beacon_bar p whose b =
    first_some (then_some (not (b.cluster == p.cluster)) Cluster ∷ then_some (is_stranger p whose b.sender) Stranger ∷ [])

-- what refuses a delivery before the clock is read, the first that holds
abbrev pub deliver_bar : Ledger → Option ℕ → Beacon → Option BoardFault
deliver_bar t whose b = first_some (bar_of t ∷ beacon_bar t.core.params whose b ∷ [])

-- the board's name for a fault of its core
abbrev pub board_fault : CoreFault → BoardFault
board_fault core.Cluster = Cluster
board_fault (core.Stranger sender) = Stranger
board_fault (core.Backward last now) = Fell last now
board_fault core.Far = Far
board_fault core.Ahead = Ahead

-- what refuses a tick, or a beacon, at a reading
abbrev pub tick_refusal : Ledger → ℕ → Option BoardFault
tick_refusal t now = option_map board_fault (tick_fault t.core.params t.core.node now)

abbrev pub beacon_refusal : Ledger → Beacon → ℕ → Option BoardFault
beacon_refusal t b now = option_map board_fault (deliver_fault t.core.params t.core.node b now)

-- the halt that a fault is, if it is one
abbrev pub halt_of : BoardFault → Option Halt
halt_of ClockFailed = Some halt.ClockFailed
halt_of (Fell last now) = Some (halt.Fell last now)
halt_of Far = Some halt.Far
halt_of Closed = None
halt_of Full = None
halt_of Cluster = None
halt_of Stranger = None
halt_of Ahead = None

abbrev pub halted : Option Halt → Ledger → Ledger
halted None t = t
halted (Some h) t = record t { closed = true; halt = Some h }

-- what a refusal leaves: a halt closes the board and is kept, and every other fault changes nothing
abbrev pub refused : Ledger → BoardFault → Ledger
refused t fault = halted (halt_of fault) t

-- The fault came from the clock, whose readings to come and count of faults were `left` and `faults` before: it failed, and
-- then its count rose; or it gave a reading at which this refuses the event.
abbrev pub ComesFromClock : (ℕ → Option BoardFault) → Option (List ℕ) → Option (List ℕ) → ℕ → ℕ → BoardFault → Type 0
ComesFromClock refusal left later faults counted ClockFailed = Rose faults counted × (later ≡ left)
ComesFromClock refusal left later faults counted fault = (now : ℕ) × Reads left later now × (refusal now ≡ Some fault)

-- why no board was made, where the clock had `left` and `faults` before
abbrev pub StopsFor : Option (List ℕ) → Option (List ℕ) → ℕ → ℕ → BoardStop → Type 0
StopsFor left later faults counted stop.ClockFailed = Rose faults counted × (later ≡ left)
StopsFor left later faults counted stop.Far = (now : ℕ) × Reads left later now × (2 ^ 62 ≤ now)
StopsFor left later faults counted stop.OutOfMemory = (now : ℕ) × Reads left later now × (now < 2 ^ 62)

-- the reading at which an event came
abbrev pub reading_of : NodeEvent → ℕ
reading_of (Tick now) = now
reading_of (Deliver now b) = now

-- A tick came at a reading: it has no fault, the receipt has its place and the core's reply, and with its reply it stands
-- at the end of the journal.
pub record TakesTick (old new : Ledger) (now : ℕ) (r : Receipt Ticked) : Type 0 where
  pub allowed : tick_fault old.core.params old.core.node now ≡ None
  pub receipt : r ≡ record { place = length old.journal; event = Tick now; reply = tick_reply old.core.params old.core.node now }
  pub ledger : new ≡ grown old (Tick now)

-- a beacon came at a reading, in the same way
pub record TakesBeacon (old new : Ledger) (b : Beacon) (now : ℕ) (r : Receipt Heard) : Type 0 where
  pub allowed : deliver_fault old.core.params old.core.node b now ≡ None
  pub receipt : r ≡ record { place = length old.journal; event = Deliver now b; reply = deliver_reply old.core.params old.core.node b }
  pub ledger : new ≡ grown old (Deliver now b)
