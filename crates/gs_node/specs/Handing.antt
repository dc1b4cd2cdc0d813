-- What a run of a node is handed, and what it hands back.
use Rattle.std.specs.Prelude.{◌≡◌, ℕ, ◌+◌, List, [], ◌∷◌, map, Option, Some, None}
use Rattle.std.specs.List.{sum_by}
use Rattle.gs_clock.specs.declared.clocks.Clock as clock
use Rattle.gs_net.specs.declared.inlets.Inlet as inlet
use Rattle.gs_net.specs.declared.outlets.Outlet as outlet
use Rattle.gs_net.specs.Tales.{Tale}
use Rattle.gs_units.specs.declared.params.NodeParams.{NodeParams}
use Rattle.gs_trace.specs.declared.start.NodeStart.{NodeStart}
use Rattle.gs_board.specs.Boards.{ledger_in}
use Rattle.gs_board.specs.Ledger.{Ledger}
use Rattle.gs_board.specs.Slips.{Slip}
use Rattle.gs_board.specs.declared.boards.Board.{Board}
use Rattle.gs_callers.specs.Seats.{unwanted_at}
use Rattle.gs_view.specs.declared.snaps.Snap.{Snap}
use Rattle.gs_node.specs.declared.ends.End.{End}
use Rattle.gs_node.specs.declared.serving.Served.{Served}

-- what was handed in: the parameters and the start of the board, the turns, and what the inlets and the door tell
pub record HandedIn : Type 0 where
  pub params : NodeParams
  pub begun : NodeStart
  pub ticks : ℕ
  pub inlets : List (Option Tale)
  pub door : Option Tale

-- what was handed back: the end, the board, its seats, and what the other objects tell
pub record HandedBack : Type 0 where
  pub why : End
  pub ledger : Ledger
  pub seats : List Slip
  pub inlets : List (Option Tale)
  pub sent : Option (List (ℕ × List ℕ))
  pub door : Option Tale
  pub replies : Option (List (List ℕ))
  pub snaps : Option (List Snap)
  pub dropped : ℕ

-- how often the objects have failed, the inlets together
pub record Failures : Type 0 where
  pub inlets : ℕ
  pub outlet : ℕ
  pub door : ℕ
  pub clock : ℕ

abbrev pub handed_in : {C I D : Type 0} (c : clock.Ghosts C) → inlet.Ghosts I → inlet.Ghosts D → Board C c → List I → D → ℕ → HandedIn
handed_in c i d board inlets door ticks = record {
  params = (ledger_in board).core.params;
  begun = (ledger_in board).begun;
  ticks = ticks;
  inlets = map i.tale inlets;
  door = d.tale door;
}

abbrev pub handed_back : {C V I O D : Type 0} (c : clock.Ghosts C) → inlet.Ghosts I → outlet.Ghosts O → inlet.Ghosts D → Served C V I O D c → HandedBack
handed_back c i o d served = record {
  why = served.end;
  ledger = ledger_in served.board;
  seats = served.seats.items;
  inlets = map i.tale served.inlets.items;
  sent = o.sent served.outlet;
  door = d.tale served.door;
  replies = d.replies served.door;
  snaps = served.publisher;
  dropped = served.dropped;
}

abbrev pub failures_in : {C V I O D : Type 0} (c : clock.Ghosts C) → clock.Ghosts V → inlet.Ghosts I → outlet.Ghosts O → inlet.Ghosts D → Served C V I O D c → Failures
failures_in c v i o d served = record {
  inlets = sum_by i.faults served.inlets.items;
  outlet = o.faults served.outlet;
  door = d.faults served.door;
  clock = v.faults served.view_clock;
}

abbrev pub added : Option ℕ → Option ℕ → Option ℕ
added None n = None
added (Some m) None = None
added (Some m) (Some n) = Some (m + n)

-- how many of the datagrams taken from the inlets of these seats are not wanted, where all inlets tell their items
abbrev pub unwanted_in : NodeParams → List (Option ℕ) → List (Option Tale) → Option ℕ
unwanted_in p [] tales = Some 0
unwanted_in p (whose ∷ others) [] = Some 0
unwanted_in p (whose ∷ others) (told ∷ tales) = added (unwanted_at p whose told) (unwanted_in p others tales)

-- so many were dropped
abbrev pub IsDropped : NodeParams → List (Option ℕ) → List (Option Tale) → ℕ → Type 0
IsDropped p others tales n = (m : ℕ) → unwanted_in p others tales ≡ Some m → n ≡ m
