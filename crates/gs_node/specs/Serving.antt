-- What is true of the values that a run of a node hands back.
use Rattle.std.specs.Prelude.{◌≡◌, ℕ, ◌≤◌, true, All, List, [], ◌∷◌, length, map, take, Option, Some, None}
use Rattle.std.specs.List.{AllZip}
use Rattle.gs_trace.specs.declared.start.NodeStart.{NodeStart}
use Rattle.gs_net.specs.Tales.{IsUnused, Tale, whole}
use Rattle.gs_board.specs.Entries.{neighbours_of}
use Rattle.gs_board.specs.Ledger.{Ledger}
use Rattle.gs_board.specs.Slips.{Slip}
use Rattle.gs_board.specs.Torn.{IsWhole}
use Rattle.gs_board.specs.declared.faults.Torn.{Torn}
use Rattle.gs_board.specs.declared.told.Told.{Told}
use Rattle.gs_callers.specs.Seats.{SeatAgrees, SeatTaken}
use Rattle.gs_callers.specs.Sends.{SentAll, SentSoFar}
use Rattle.gs_callers.specs.Snaps.{snaps_of}
use Rattle.gs_respond.specs.Doors.{DoorAnswers, DoorTaken}
use Rattle.gs_view.specs.declared.snaps.Snap.{Snap}
use Rattle.gs_node.specs.Handing.{HandedBack, HandedIn, IsDropped}
use Rattle.gs_node.specs.declared.ends.End.{End}
use Rattle.gs_node.specs.declared.ends.End.TheVariants as end

-- the board has the parameters and the start of the one handed in
pub record SameStart (a : HandedIn) (t : Ledger) : Type 0 where
  pub params : t.core.params ≡ a.params
  pub begun : t.begun ≡ a.begun

-- the timer's seat
pub record TimerSeat (a : HandedIn) (s : Slip) : Type 0 where
  pub whose : s.whose ≡ None
  pub few : length s.told ≤ a.ticks
  pub params : s.params ≡ a.params
  pub begun : s.begun ≡ a.begun

-- where there is a publisher, it has published the first of the snaps of these entries
abbrev pub ShownSoFar : NodeStart → List Told → Option (List Snap) → Type 0
ShownSoFar begun entries snaps = (shown : List Snap) → snaps ≡ Some shown → shown ≡ take (length shown) (snaps_of begun entries)

-- how a seat differs from the board, where the end says so
abbrev pub torn_of : End → Option Torn
torn_of (end.Torn torn) = Some torn
torn_of end.NoThread = None
torn_of (end.ClockFault halt) = None
torn_of end.ClockEnd = None
torn_of end.JournalEnd = None
torn_of end.LinkFault = None
torn_of end.OutOfMemory = None
torn_of end.Done = None

-- nothing was started: nothing was taken, replied or sent
pub record IsUntouched (a : HandedIn) (inlets : List (Option Tale)) (sent : Option (List (ℕ × List ℕ))) (door : Option Tale) (replies : Option (List (List ℕ))) : Type 0 where
  pub inlets_same : inlets ≡ a.inlets
  pub unsent : IsUnused sent
  pub door_same : door ≡ a.door
  pub unreplied : IsUnused replies

-- What is true in every end where there are seats, the timer's and the neighbours': the neighbours' seats are those of the
-- inlets in order; each agrees with its inlet, of which no item is lost; the timer's seat is within its turns; what was sent
-- and shown is of its entries; the door's replies are those of its requests; nothing was started where there is no
-- publisher; and where the end is not `Torn`, the journal of the board is what the seats say.
pub record WithSeats (a : HandedIn) (b : HandedBack) (timer : Slip) (others : List Slip) : Type 0 where
  pub closed : b.ledger.closed ≡ true
  pub whose : map (λ s. s.whose) others ≡ map (λ x. Some x) (neighbours_of a.params)
  pub agree : AllZip (SeatAgrees a.params) others b.inlets
  pub items : map whole b.inlets ≡ map whole a.inlets
  pub dropped : IsDropped a.params (map (λ x. Some x) (neighbours_of a.params)) b.inlets b.dropped
  pub timer_seat : TimerSeat a timer
  pub sent : SentSoFar a.params.links timer.told b.sent
  pub shown : ShownSoFar a.begun timer.told b.snaps
  pub door : whole b.door ≡ whole a.door
  pub answers : DoorAnswers a.params.node b.door b.replies
  pub unstarted : b.snaps ≡ None → IsUntouched a b.inlets b.sent b.door b.replies
  pub whole_seats : torn_of b.why ≡ None → All (IsWhole b.ledger) (timer ∷ others) × SameStart a b.ledger

-- what is true where the seats could not be made: nothing was started or published
pub record WithoutSeats (a : HandedIn) (b : HandedBack) : Type 0 where
  pub closed : b.ledger.closed ≡ true
  pub why : b.why ≡ end.OutOfMemory
  pub journal : b.ledger.journal ≡ []
  pub start : SameStart a b.ledger
  pub untouched : IsUntouched a b.inlets b.sent b.door b.replies
  pub snaps : b.snaps ≡ None
  pub dropped : b.dropped ≡ 0

abbrev pub EndsWith : HandedIn → HandedBack → List Slip → Type 0
EndsWith a b [] = WithoutSeats a b
EndsWith a b (timer ∷ others) = WithSeats a b timer others

-- what is true in every end
abbrev pub EveryEnd : HandedIn → HandedBack → Type 0
EveryEnd a b = EndsWith a b b.seats

-- What is true besides where the run was done: the timer took all its turns, and all was sent and shown; each inlet and the
-- door gave no more; and the journal of the board is what the seats say.
pub record WhereDone (a : HandedIn) (b : HandedBack) (timer : Slip) (others : List Slip) : Type 0 where
  pub start : SameStart a b.ledger
  pub whole_seats : All (IsWhole b.ledger) (timer ∷ others)
  pub ticks : length timer.told ≡ a.ticks
  pub sent : SentAll a.params.links timer.told b.sent
  pub shown : b.snaps ≡ Some (snaps_of a.begun timer.told)
  pub taken : AllZip (SeatTaken a.params) others b.inlets
  pub door : DoorTaken b.door b.replies

abbrev pub DoneWith : HandedIn → HandedBack → List Slip → Type 0
DoneWith a b [] = ⊥
DoneWith a b (timer ∷ others) = WhereDone a b timer others

-- what is true of a run that was done
abbrev pub DoneEnd : HandedIn → HandedBack → Type 0
DoneEnd a b = DoneWith a b b.seats
