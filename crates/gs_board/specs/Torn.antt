-- How a seat differs from its board.
use Rattle.std.specs.Prelude.{◌≡◌, ◌≢◌, ℕ, List, take, Option, slice_get}
use Rattle.gs_board.specs.declared.told.Told.{Told}
use Rattle.gs_board.specs.declared.faults.Torn.{Torn}
use Rattle.gs_board.specs.declared.faults.Torn.TheVariants.{Frame, Entry}
use Rattle.gs_board.specs.Entries.{entries_of}
use Rattle.gs_board.specs.Ledger.{Ledger}
use Rattle.gs_board.specs.Slips.{Slip}

-- the seat has the parameters and the start of the board
pub record SameFrame (t : Ledger) (s : Slip) : Type 0 where
  pub params : s.params ≡ t.core.params
  pub begun : s.begun ≡ t.begun

-- so it has, and its list is its entries of the journal
pub record IsWhole (t : Ledger) (s : Slip) : Type 0 where
  pub frame : SameFrame t s
  pub told : s.told ≡ entries_of t s.whose

-- the first index at which two lists differ, with what stands there in each, if anything does
pub record FirstDiffers {A : Type 0} (index : ℕ) (told kept : Option A) (xs ys : List A) : Type 0 where
  pub same : take index xs ≡ take index ys
  pub told_is : slice_get xs index ≡ told
  pub kept_is : slice_get ys index ≡ kept
  pub differ : told ≢ kept

-- the lists differ so
abbrev pub DifferBy : List Told → List Told → Torn → Type 0
DifferBy xs ys Frame = ⊥
DifferBy xs ys (Entry index told kept) = FirstDiffers index told kept xs ys

-- the seat differs from the board so
abbrev pub IsTorn : Ledger → Slip → Torn → Type 0
IsTorn t s Frame = SameFrame t s → ⊥
IsTorn t s (Entry index told kept) = SameFrame t s × FirstDiffers index told kept s.told (entries_of t s.whose)
