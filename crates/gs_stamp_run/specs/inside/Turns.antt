-- A run of the command `stamp` after so many turns. These facts are for private functions and proofs.
use Rattle.std.specs.Prelude.{◌≡◌, ℕ, ◌-◌, ◌≤◌, List, length, ◌++◌, Option, Some}
use Rattle.gs_io.specs.Held.{Appends}
use Rattle.gs_stamp.specs.Restarts.{AllBelow, RiseFrom}
use Rattle.gs_stamp_run.specs.Issued.{issued}
use Rattle.gs_stamp_run.specs.Lines.{lines}

-- after so many turns the stamps are the first, and those to come are at the readings that are left
pub record Onward (count turn low next : ℕ) (readings stamps : List ℕ) (left : Option (List ℕ)) : Type 0 where
  pub later : List ℕ
  pub told : left ≡ Some later
  pub front : issued count low readings ≡ stamps ++ issued (count - turn) next later
  pub turns : length stamps ≡ turn

-- After so many turns stamps rose from `low` on and stayed below `next`, and each has its line.
pub record Far (count turn low next : ℕ) (readings left old new : Option (List ℕ)) : Type 0 where
  pub stamps : List ℕ
  pub rise : RiseFrom low stamps
  pub below : AllBelow next stamps
  pub kept : low ≤ next
  pub wrote : Appends old new (lines stamps)
  pub exact : (rs : List ℕ) → readings ≡ Some rs → Onward count turn low next rs stamps left
