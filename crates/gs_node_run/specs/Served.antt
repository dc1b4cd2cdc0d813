-- What is left of a run of a node, and what is true of it where the node was served.
use Rattle.std.specs.Prelude.{◌≡◌, ◌⊎◌, ℕ, ⊤, List, ◌++◌, map, Option, Some}
use Rattle.std.specs.List.{AllZip}
use Rattle.gs_clock.specs.declared.clocks.Clock as clock
use Rattle.gs_board.specs.Boards.{clock_in, ledger_in}
use Rattle.gs_board.specs.Ledger.{Ledger}
use Rattle.gs_board.specs.Slips.{Slip}
use Rattle.gs_net.specs.Lending.{Holds, Returned}
use Rattle.gs_net.specs.Tales.{OnTold, Tale}
use Rattle.gs_net.specs.declared.items.Item.{Item}
use Rattle.gs_units.specs.declared.params.NodeParams.{NodeParams}
use Rattle.gs_cli.specs.declared.status.Status.{Status}
use Rattle.gs_cli.specs.declared.status.Status.TheVariants as status
use Rattle.gs_node.specs.Handing.{HandedBack, HandedIn}
use Rattle.gs_node.specs.Serving.{DoneEnd, EveryEnd}
use Rattle.gs_node_run.specs.Lending.{in_order}
use Rattle.gs_node_run.specs.declared.ends.Left.{Left}
use Rattle.gs_node_run.specs.declared.ends.Left.TheVariants as left

-- where the node was not served, its clock is as said
abbrev pub IfClock : {C : Type 0} {c : clock.Ghosts C} → Left C c → (C → Type 0) → Type 0
IfClock (left.Clock clock) P = P clock
IfClock (left.Served board seats) P = ⊤

-- where it was, its ledger and its seats are
abbrev pub IfServed : {C : Type 0} {c : clock.Ghosts C} → Left C c → (Ledger → List Slip → Type 0) → Type 0
IfServed (left.Clock clock) P = ⊤
IfServed (left.Served board seats) P = P (ledger_in board) seats.items

-- the clock that is left, also that of the board
abbrev pub clock_left : {C : Type 0} {c : clock.Ghosts C} → Left C c → C
clock_left (left.Clock clock) = clock
clock_left (left.Served board seats) = clock_in board

-- it was
abbrev pub WasServed : {C : Type 0} {c : clock.Ghosts C} → Left C c → Type 0
WasServed (left.Clock clock) = ⊥
WasServed (left.Served board seats) = ⊤

-- what was handed to the node is what its ports lent, and it begins with its clock at 0
pub record IsHanded (params : NodeParams) (ticks : ℕ) (held : Option (ℕ → List Item)) (ports : List ℕ) (door : ℕ) (handed : HandedIn) : Type 0 where
  pub params_are : handed.params ≡ params
  pub ticks_are : handed.ticks ≡ ticks
  pub start : handed.begun.l0 ≡ 0
  pub inlets : AllZip (Holds held) ports handed.inlets
  pub door_holds : Holds held door handed.door

-- What came back to the ports is what the node handed back, with this ledger and these seats; all that is true in every end
-- of a node is true of it, and all that is true of one that was done where the status is `Done`, or only the trace failed.
pub record Serves {In Out Asked : Type 0} (tale : In → Option Tale) (sent : Out → Option (List (ℕ × List ℕ))) (door_tale : Asked → Option Tale) (replies : Asked → Option (List (List ℕ))) (handed : HandedIn) (back after : Option (List (Returned In Out Asked))) (end : Status) (ledger : Ledger) (seats : List Slip) : Type 0 where
  pub inlets : List In
  pub outlet : Out
  pub door : Asked
  pub over : HandedBack
  pub returned : after ≡ OnTold back (λ before. before ++ in_order inlets (Some outlet) (Some door))
  pub inlets_are : over.inlets ≡ map tale inlets
  pub sent_is : over.sent ≡ sent outlet
  pub door_is : over.door ≡ door_tale door
  pub replies_are : over.replies ≡ replies door
  pub ledger_is : over.ledger ≡ ledger
  pub seats_are : over.seats ≡ seats
  pub every : EveryEnd handed over
  pub done : (end ≡ status.Done) ⊎ (end ≡ status.WriteFault) → DoneEnd handed over
