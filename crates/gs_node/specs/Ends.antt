-- Why a run of a node ended.
use Rattle.std.specs.Prelude.{◌≡◌, ℕ, ◌<◌, ◌≤◌, ◌+◌, ◌⊎◌, Bool, true, false, MatchOption, All, List, length, take, slice_get, Some, None}
use Rattle.gs_io.specs.Causes.{Rose}
use Rattle.gs_board.specs.Ledger.{Ledger}
use Rattle.gs_board.specs.Slips.{Slip}
use Rattle.gs_board.specs.Torn.{IsTorn, IsWhole}
use Rattle.gs_board.specs.declared.faults.Halt.TheVariants as halt
use Rattle.gs_board.specs.declared.faults.Torn.{Torn}
use Rattle.gs_node.specs.Handing.{Failures}
use Rattle.gs_node.specs.Serving.{torn_of}
use Rattle.gs_node.specs.declared.ends.End.{End}
use Rattle.gs_node.specs.declared.ends.End.TheVariants as end

-- the first of the seats that differs from the board differs so
abbrev pub IsFirstTorn : Ledger → List Slip → Torn → Type 0
IsFirstTorn t seats torn = (k : ℕ) × (s : Slip) × (slice_get seats k ≡ Some s) × All (IsWhole t) (take k seats) × IsTorn t s torn

-- what each end shows of the board and the seats, of the counts of failures, and of the crew's count
abbrev pub Shows : Ledger → List Slip → Failures → Type 0 → End → Type 0
Shows t seats n rose (end.Torn torn) = IsFirstTorn t seats torn
Shows t seats n rose end.NoThread = rose
Shows t seats n rose (end.ClockFault h) =
    ((t.halt ≡ Some h) × (h ≡ halt.Far → ⊥)) ⊎ ((t.halt ≡ None) × (h ≡ halt.ClockFailed) × (0 < n.clock))
Shows t seats n rose end.ClockEnd = t.halt ≡ Some halt.Far
Shows t seats n rose end.JournalEnd = 4193281 ≤ length t.journal
Shows t seats n rose end.LinkFault = 0 < n.inlets + n.outlet + n.door
Shows t seats n rose end.OutOfMemory = Unit {0}
Shows t seats n rose end.Done = Unit {0}

-- the ends that are asked after the halt
abbrev pub is_after_halt : End → Bool
is_after_halt (end.Torn torn) = false
is_after_halt end.NoThread = false
is_after_halt (end.ClockFault h) = false
is_after_halt end.ClockEnd = false
is_after_halt end.JournalEnd = true
is_after_halt end.LinkFault = true
is_after_halt end.OutOfMemory = true
is_after_halt end.Done = true

-- the end is the first that holds: it is `Torn` exactly where a seat differs, and a later one only where there is no halt
pub record IsEnd (t : Ledger) (seats : List Slip) (n : Failures) (rose : Type 0) (why : End) : Type 0 where
  pub torn : MatchOption (torn_of why) (All (IsWhole t) seats) (IsFirstTorn t seats)
  pub shows : Shows t seats n rose why
  pub halt : is_after_halt why ≡ true → t.halt ≡ None

-- where no count rose, there is no halt, the journal has room and each seat is whole, a run was done or had no memory
abbrev pub IsComplete : Type 0
IsComplete = (t : Ledger) (seats : List Slip) (n : Failures) (before now : ℕ) (why : End)
    → IsEnd t seats n (Rose before now) why → (Rose before now → ⊥) → n.clock ≡ 0 → n.inlets + n.outlet + n.door ≡ 0
    → t.halt ≡ None → length t.journal < 4193281 → All (IsWhole t) seats → (why ≡ end.Done) ⊎ (why ≡ end.OutOfMemory)
