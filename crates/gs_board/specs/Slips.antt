-- A seat as contracts see it.
use Rattle.std.specs.Prelude.{◌≡◌, ℕ, ◌-◌, List, ◌∷◌, [], ◌++◌, Option}
use Rattle.gs_units.specs.declared.params.NodeParams.{NodeParams}
use Rattle.gs_trace.specs.declared.start.NodeStart.{NodeStart}
use Rattle.gs_board.specs.declared.told.Told.{Told}
use Rattle.gs_board.specs.Ledger.{Ledger}

-- Whose a seat is, a neighbour's or the timer's; the parameters and the start of the board that issued it; what it was
-- told; and for how many more entries it has room.
pub record Slip : Type 0 where
  pub whose : Option ℕ
  pub params : NodeParams
  pub begun : NodeStart
  pub told : List Told
  pub room : ℕ

-- a seat that a board has just issued
abbrev pub new_slip : Ledger → Option ℕ → Slip
new_slip t whose = record { whose = whose; params = t.core.params; begun = t.begun; told = []; room = 0 }

-- one entry more
abbrev pub noted : Slip → Told → Slip
noted s k = record s { told = s.told ++ k ∷ []; room = s.room - 1 }

-- what a seat is told never changes whose it is, nor the board that issued it
pub record SameSeat (old new : Slip) : Type 0 where
  pub whose : new.whose ≡ old.whose
  pub params : new.params ≡ old.params
  pub begun : new.begun ≡ old.begun
