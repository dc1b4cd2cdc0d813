-- For private functions and proofs: what the threads of a node leave behind, and why they stopped.
use Rattle.std.specs.Prelude.{◌≡◌, ℕ, ◌+◌, ◌<◌, Bool, true, false, List, length, map, is_some, Option, Some, None, Result, Err, OnOk}
use Rattle.std.specs.List.{AllZip, sum_by}
use Rattle.gs_clock.specs.declared.clocks.Clock as clock
use Rattle.gs_net.specs.declared.inlets.Inlet as inlet
use Rattle.gs_net.specs.declared.outlets.Outlet as outlet
use Rattle.gs_net.specs.Tales.{Tale, whole}
use Rattle.gs_units.specs.declared.params.NodeParams.{NodeParams}
use Rattle.gs_trace.specs.declared.start.NodeStart.{NodeStart}
use Rattle.gs_board.specs.Slips.{Slip}
use Rattle.gs_board.specs.declared.told.Told.{Told}
use Rattle.gs_callers.specs.Seats.{SeatAgrees, SeatTaken}
use Rattle.gs_callers.specs.Sends.{SentAll, SentSoFar}
use Rattle.gs_callers.specs.Snaps.{snaps_of}
use Rattle.gs_callers.specs.declared.timer.TimerStop.{TimerStop}
use Rattle.gs_callers.specs.declared.timer.TimerStop.TheVariants as stop
use Rattle.gs_respond.specs.Doors.{DoorAnswers, DoorTaken, Owes}
use Rattle.gs_respond.specs.Rests.{is_at_rest}
use Rattle.gs_respond.specs.declared.rests.Rest.{Rest}
use Rattle.gs_respond.specs.declared.rests.Rest.TheVariants as rest
use Rattle.gs_view.specs.declared.snaps.Snap.{Snap}
use Rattle.gs_node.specs.Handing.{Failures, HandedIn, IsDropped}
use Rattle.gs_node.specs.Serving.{IsUntouched, ShownSoFar, TimerSeat}
use Rattle.gs_node.specs.declared.hands.Hands.{Hands}
use Rattle.gs_node.specs.declared.running.Ran.{Ran}

-- where there is a publisher, it has published all snaps of these entries
abbrev pub ShownAll : NodeStart → List Told → Option (List Snap) → Type 0
ShownAll begun entries snaps = (shown : List Snap) → snaps ≡ Some shown → shown ≡ snaps_of begun entries

-- what is left behind
pub record Leavings : Type 0 where
  pub timer : Slip
  pub others : List Slip
  pub inlets : List (Option Tale)
  pub sent : Option (List (ℕ × List ℕ))
  pub door : Option Tale
  pub replies : Option (List (List ℕ))
  pub snaps : Option (List Snap)
  pub dropped : ℕ

-- why the threads stopped
pub record Reasons : Type 0 where
  pub timer : Result (Unit {0}) TimerStop
  pub responder : Rest
  pub fault : Bool
  pub short : Bool

abbrev pub leavings_of : {C V I O D : Type 0} → inlet.Ghosts I → outlet.Ghosts O → inlet.Ghosts D → Ran C V I O D → Leavings
leavings_of i o d ran = record {
  timer = ran.timer;
  others = ran.others.items;
  inlets = map i.tale ran.inlets.items;
  sent = o.sent ran.outlet;
  door = d.tale ran.responded.door;
  replies = d.replies ran.responded.door;
  snaps = ran.publisher;
  dropped = ran.met.dropped;
}

abbrev pub failed_in : {C V I O D : Type 0} → clock.Ghosts V → inlet.Ghosts I → outlet.Ghosts O → inlet.Ghosts D → Ran C V I O D → Failures
failed_in v i o d ran = record {
  inlets = sum_by i.faults ran.inlets.items;
  outlet = o.faults ran.outlet;
  door = d.faults ran.responded.door;
  clock = v.faults ran.responded.view_clock;
}

abbrev pub reasons_of : {C V I O D : Type 0} → Ran C V I O D → Reasons
reasons_of ran = record { timer = ran.stop; responder = ran.responded.rest; fault = ran.met.fault; short = ran.met.short }

-- what is handed to the threads
abbrev pub begun_by : {C V I O D : Type 0} → inlet.Ghosts I → inlet.Ghosts D → NodeParams → Hands C V I O D → ℕ → HandedIn
begun_by i d params hands ticks = record {
  params = params;
  begun = hands.timer.begun;
  ticks = ticks;
  inlets = map i.tale hands.inlets.items;
  door = d.tale hands.door;
}

-- what is true of what is left, whatever stopped the threads
pub record HasRun (a : HandedIn) (whose : List (Option ℕ)) (r : Leavings) : Type 0 where
  pub owners : map (λ s. s.whose) r.others ≡ whose
  pub agree : AllZip (SeatAgrees a.params) r.others r.inlets
  pub items : map whole r.inlets ≡ map whole a.inlets
  pub dropped : IsDropped a.params (map (λ s. s.whose) r.others) r.inlets r.dropped
  pub timer_seat : TimerSeat a r.timer
  pub sent : SentSoFar a.params.links r.timer.told r.sent
  pub shown : ShownSoFar a.begun r.timer.told r.snaps
  pub door : whole r.door ≡ whole a.door
  pub answers : DoorAnswers a.params.node r.door r.replies
  pub unstarted : r.snaps ≡ None → IsUntouched a r.inlets r.sent r.door r.replies

-- and what the reasons say
pub record HasReasons (a : HandedIn) (r : Leavings) (n : Failures) (w : Reasons) : Type 0 where
  pub taken : w.short ≡ false → AllZip (SeatTaken a.params) r.others r.inlets
  pub ticks : OnOk w.timer (length r.timer.told ≡ a.ticks)
  pub sent : OnOk w.timer (SentAll a.params.links r.timer.told r.sent)
  pub shown : OnOk w.timer (ShownAll a.begun r.timer.told r.snaps)
  pub made : w.short ≡ false → is_some r.snaps ≡ true
  pub door : is_at_rest w.responder ≡ true → DoorTaken r.door r.replies
  pub inlet_fault : w.fault ≡ true → 0 < n.inlets
  pub outlet_fault : w.timer ≡ Err stop.Send → 0 < n.outlet
  pub door_fault : w.responder ≡ rest.Door → 0 < n.door
  pub owing : Owes r.door r.replies (n.door + n.clock)
  pub clock_fault : w.responder ≡ rest.Clock → 0 < n.clock
