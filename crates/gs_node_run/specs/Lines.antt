-- What a run of a node says of its end.
use Rattle.std.specs.Prelude.{◌≡◌, ℕ, ◌⊎◌, All, List, [], ◌∷◌, ◌++◌, take, Option, Some, None, codes, decimal, slice_get}
use Rattle.gs_core.specs.declared.event.NodeEvent.{NodeEvent}
use Rattle.gs_core.specs.declared.event.NodeEvent.TheVariants.{Tick, Deliver}
use Rattle.gs_io.specs.Causes.{Rose}
use Rattle.gs_io.specs.Held.{Appends, AppendsFront}
use Rattle.gs_board.specs.Ledger.{Ledger}
use Rattle.gs_board.specs.Slips.{Slip}
use Rattle.gs_board.specs.Torn.{IsTorn, IsWhole}
use Rattle.gs_board.specs.declared.faults.Halt.{Halt}
use Rattle.gs_board.specs.declared.faults.Halt.TheVariants as halt
use Rattle.gs_board.specs.declared.faults.Torn.{Torn}
use Rattle.gs_board.specs.declared.faults.Torn.TheVariants.{Frame, Entry}
use Rattle.gs_board.specs.declared.told.Told.{Told}
use Rattle.gs_cli.specs.Answers.{Answer, line}
use Rattle.gs_cli.specs.declared.status.Status.{Status}
use Rattle.gs_cli.specs.declared.status.Status.TheVariants as status

-- a text was handed to a sink: all of it, or a prefix where the sink's count rose
abbrev pub Says : List ℕ → Option (List ℕ) → Option (List ℕ) → ℕ → ℕ → Type 0
Says text old new before after = Appends old new text ⊎ (AppendsFront old new text × Rose before after)

-- the line of a status, where it says no more than that
abbrev pub plain_line : Status → List ℕ
plain_line status.ClockFault = codes "clock failed\n"
plain_line status.LinkFault = codes "link failed\n"
plain_line status.NoThread = codes "no thread\n"
plain_line status.ClockEnd = codes "clock end\n"
plain_line status.JournalEnd = codes "journal end\n"
plain_line _ = []

abbrev pub plain_answer : Status → Answer
plain_answer s = record { status = s; text = plain_line s }

-- a fault of the clock: it fell, with its last reading and the one below it, or it failed
abbrev pub clock_answer : Option Halt → Answer
clock_answer (Some (halt.Fell last now)) = line status.ClockFault (codes "clock fell: " ++ (decimal last ++ 32 ∷ decimal now))
clock_answer _ = plain_answer status.ClockFault

-- an entry of a seat or of a journal, if there is one
abbrev pub event_words : NodeEvent → List ℕ
event_words (Tick hw) = codes "tick " ++ decimal hw
event_words (Deliver hw b) = codes "deliver " ++ (decimal hw ++ 32 ∷ (decimal b.sender ++ 32 ∷ decimal b.seq))

abbrev pub entry_words : Option Told → List ℕ
entry_words None = codes "none"
entry_words (Some told) = event_words told.event

-- how a seat differs from the board
abbrev pub torn_words : Torn → List ℕ
torn_words Frame = codes "frame"
torn_words (Entry index told kept) =
    codes "index " ++ (decimal index ++ (codes " told " ++ (entry_words told ++ (codes " kept " ++ entry_words kept))))

-- and that the seat at this place does
abbrev pub torn_answer : ℕ → Torn → Answer
torn_answer place torn = line status.Torn (codes "torn seat " ++ (decimal place ++ 32 ∷ torn_words torn))

-- the seat at this place is the first that differs from the board, and differs so
abbrev pub IsTornAt : Ledger → List Slip → ℕ → Torn → Type 0
IsTornAt t seats place torn = (s : Slip) × (slice_get seats place ≡ Some s) × All (IsWhole t) (take place seats) × IsTorn t s torn

-- the answer of a status of a node that was served, with this board and these seats
abbrev pub IsAnswerOf : Ledger → List Slip → Status → Answer → Type 0
IsAnswerOf t seats status.ClockFault answer = answer ≡ clock_answer t.halt
IsAnswerOf t seats status.Torn answer = (place : ℕ) × (torn : Torn) × IsTornAt t seats place torn × (answer ≡ torn_answer place torn)
IsAnswerOf t seats s answer = answer ≡ plain_answer s
