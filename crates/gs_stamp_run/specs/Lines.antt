-- The statuses of the command `stamp`, and what it writes.
use Rattle.std.specs.Prelude.{◌≡◌, ◌⊎◌, ℕ, List, [], ◌∷◌, ◌++◌, Option, codes, decimal, ⊤}
use Rattle.gs_io.specs.Held.{Appends, AppendsFront}
use Rattle.gs_cli.specs.declared.status.Status.{Status}
use Rattle.gs_cli.specs.declared.status.Status.TheVariants.{Done, Usage, WriteFault, OutOfMemory, ClockFault, StoreFault, StampEnd}

-- the statuses with which the command ends
abbrev pub IsOfStamp : Status → Type 0
IsOfStamp Done = ⊤
IsOfStamp Usage = ⊤
IsOfStamp WriteFault = ⊤
IsOfStamp OutOfMemory = ⊤
IsOfStamp ClockFault = ⊤
IsOfStamp StoreFault = ⊤
IsOfStamp StampEnd = ⊤
IsOfStamp _ = ⊥

-- the line of a stamp
abbrev pub line_of : ℕ → List ℕ
line_of stamp = decimal stamp ++ 10 ∷ []

-- a line for each stamp
abbrev pub lines : List ℕ → List ℕ
lines [] = []
lines (stamp ∷ stamps) = line_of stamp ++ lines stamps

-- the line that ends a run with this status
abbrev pub status_line : Status → List ℕ
status_line Usage = codes "usage: gradsync plan, play, trace, audit, replay, gen or node\n"
status_line ClockFault = codes "clock failed\n"
status_line StoreFault = codes "store failed\n"
status_line StampEnd = codes "stamp end\n"
status_line _ = []

-- the writing failed, or there was no memory for it
abbrev pub IsCut : Status → Type 0
IsCut status = (status ≡ WriteFault) ⊎ (status ≡ OutOfMemory)

-- The sink has a line for each stamp and the line of the status. Where the run was cut, it has a prefix of the stamps'
-- lines and the line of the status that was to be told.
abbrev pub Wrote : List ℕ → Status → Option (List ℕ) → Option (List ℕ) → Type 0
Wrote stamps status old new =
    Appends old new (lines stamps ++ status_line status)
    ⊎ (IsCut status × (halt : Status) × AppendsFront old new (lines stamps ++ status_line halt))
