-- For private functions and proofs: what was started, or could not be.
use Rattle.std.specs.Prelude.{◌≡◌, ℕ, ◌≤◌, true, [], is_some, All, List, length, map, Option, None, Result, Ok, Err}
use Rattle.gs_units.specs.Params.{AreValid}
use Rattle.gs_units.specs.declared.params.NodeParams.{NodeParams}
use Rattle.gs_crew.specs.Tasks.{begun_as}
use Rattle.gs_crew.specs.declared.tasks.Refused.{Refused}
use Rattle.gs_crew.specs.declared.tasks.Running.{Running}
use Rattle.gs_net.specs.declared.inlets.Inlet as inlet
use Rattle.gs_net.specs.declared.outlets.Outlet as outlet
use Rattle.gs_net.specs.Tales.{IsFresh, IsUnused, Tale}
use Rattle.gs_board.specs.Slips.{Slip}
use Rattle.gs_node.specs.declared.hands.Hands.{Hands}

-- what a function tells of the task of a start, as it was then
abbrev pub of_task : {T Name X : Type 0} → (T → X) → Result (Running T Name) (Refused T) → X
of_task f (Ok running) = f (begun_as running)
of_task f (Err refused) = f refused.task

-- a seat of a neighbour without entries
pub record IsNewSeat (s : Slip) : Type 0 where
  pub empty : s.told ≡ []
  pub others : is_some s.whose ≡ true

-- what has to be true before the first start
pub record IsReady (p : NodeParams) (timer : Slip) (seats : List Slip) (inlets : List (Option Tale)) (door : Option Tale) (replies : Option (List (List ℕ))) (sent : Option (List (ℕ × List ℕ))) : Type 0 where
  pub valid : AreValid p
  pub new_seats : All IsNewSeat seats
  pub fresh_inlets : All IsFresh inlets
  pub count : length seats ≡ length inlets
  pub few : length inlets ≤ 511
  pub fresh_door : IsFresh door
  pub silent : IsUnused replies
  pub whose : timer.whose ≡ None
  pub empty : timer.told ≡ []
  pub params : timer.params ≡ p
  pub unsent : IsUnused sent

-- that of what the threads are handed
abbrev pub AreReady : {C V I O D : Type 0} → inlet.Ghosts I → outlet.Ghosts O → inlet.Ghosts D → NodeParams → Hands C V I O D → Type 0
AreReady i o d p hands = IsReady p hands.timer hands.seats.items (map i.tale hands.inlets.items) (d.tale hands.door) (d.replies hands.door) (o.sent hands.outlet)
