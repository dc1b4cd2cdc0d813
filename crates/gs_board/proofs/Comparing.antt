-- From the lists of a seat and of a journal to the seat and its board.
use Rattle.std.proofs.Common.{◌≡◌, List, Option, Some, None, MatchOption, ◌∙◌, subst}
use Rattle.gs_board.specs.Entries.{entries_of}
use Rattle.gs_board.specs.Ledger.{Ledger}
use Rattle.gs_board.specs.Slips.{Slip}
use Rattle.gs_board.specs.Torn.{DifferBy, FirstDiffers, IsTorn, IsWhole, SameFrame}
use Rattle.gs_board.specs.declared.faults.Torn.{Torn}
use Rattle.gs_board.specs.declared.faults.Torn.TheVariants.{Frame, Entry}
use Rattle.gs_board.specs.declared.told.Told.{Told}

-- a seat with the board's frame differs from it as its list does
pub torn_by_list : (t : Ledger) (s : Slip) (entries : List Told) (torn : Option Torn) → SameFrame t s → entries ≡ entries_of t s.whose
    → MatchOption torn (s.told ≡ entries) (DifferBy s.told entries) → MatchOption torn (IsWhole t s) (IsTorn t s)
torn_by_list t s entries None frame are h = record { frame = frame; told = h ∙ are }
torn_by_list t s entries (Some Frame) frame are h = absurd h
torn_by_list t s entries (Some (Entry index told kept)) frame are h =
    (frame, subst (λ (ys : List Told). FirstDiffers index told kept s.told ys) are h)
