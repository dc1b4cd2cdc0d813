-- With which status a run of a node ends, and what each status shows.
use Rattle.std.specs.Prelude.{◌≡◌, ◌<◌, ◌≤◌, ◌^◌, ◌⊎◌, ℕ, ⊤, All, List, [], length, Option, Some, None}
use Rattle.gs_io.specs.Causes.{Rose}
use Rattle.gs_io.specs.Held.{Appends, AppendsFront}
use Rattle.gs_clock.specs.Readings.{Reads}
use Rattle.gs_board.specs.Ledger.{Ledger}
use Rattle.gs_board.specs.Slips.{Slip}
use Rattle.gs_board.specs.Torn.{IsWhole}
use Rattle.gs_board.specs.declared.faults.Halt.{Halt}
use Rattle.gs_board.specs.declared.faults.Halt.TheVariants as halt
use Rattle.gs_board.specs.declared.faults.Torn.{Torn}
use Rattle.gs_plan.specs.declared.plan.Plan.{Plan}
use Rattle.gs_cli.specs.Answers.{Answer}
use Rattle.gs_cli.specs.declared.status.Status.{Status}
use Rattle.gs_cli.specs.declared.status.Status.TheVariants as status
use Rattle.gs_inputs.specs.Sources.{FilesSeen}
use Rattle.gs_node.specs.Ends.{IsFirstTorn}
use Rattle.gs_node_run.specs.Lines.{IsAnswerOf, plain_line}
use Rattle.gs_node_run.specs.Nodes.{IsRefused, Names}
use Rattle.gs_node_run.specs.Words.{Order}

-- a count of faults before a run and after it
pub record Count : Type 0 where
  pub before : ℕ
  pub after : ℕ

abbrev pub count : ℕ → ℕ → Count
count before after = record { before = before; after = after }

-- it rose
abbrev pub HasRisen : Count → Type 0
HasRisen n = Rose n.before n.after

-- how often the objects of the outside have failed: the clock that is left and the view clock, and the others in the run
pub record Faults : Type 0 where
  pub clock : ℕ
  pub view : ℕ
  pub ports : Count
  pub crew : Count
  pub trace : Count

abbrev pub faults : ℕ → ℕ → Count → Count → Count → Faults
faults clock view ports crew trace = record { clock = clock; view = view; ports = ports; crew = crew; trace = trace }

-- the first reading of a clock, which told these readings before and those after, was not below the end of all clocks
abbrev pub IsLate : Option (List ℕ) → Option (List ℕ) → Type 0
IsLate before after = (now : ℕ) × Reads before after now × (2 ^ 62 ≤ now)

-- what a status shows of a run whose node has a name and was not served; `late` says that its first reading was
abbrev pub ShowsUnserved : Faults → Type 0 → Status → Type 0
ShowsUnserved n late status.ClockFault = 0 < n.clock
ShowsUnserved n late status.ClockEnd = late
ShowsUnserved n late status.LinkFault = HasRisen n.ports
ShowsUnserved n late status.OutOfMemory = ⊤
ShowsUnserved n late _ = ⊥

-- How a run ends whose node was not served, where `Says` tells what is said: its words, its plan or its node are refused,
-- and the line of that is said; or the node that they name met what the status shows; or memory was short.
abbrev pub EndsUnserved : FilesSeen → List (List ℕ) → Faults → Type 0 → (List ℕ → Type 0) → Status → Type 0
EndsUnserved files words n late Says s =
    ((answer : Answer) × IsRefused files words answer × (s ≡ answer.status) × Says answer.text)
    ⊎ ((order : Order) × (plan : Plan) × Names files words order plan × ShowsUnserved n late s × Says (plain_line s))
    ⊎ ((s ≡ status.OutOfMemory) × Says [])

-- the clock gave a reading below one that it had given
abbrev pub HasFallen : Option Halt → Type 0
HasFallen h = (last : ℕ) × (now : ℕ) × (h ≡ Some (halt.Fell last now))

-- what a status shows of the board and the seats of a node that was served
abbrev pub ShowsServed : Ledger → List Slip → Faults → Status → Type 0
ShowsServed t seats n status.Done = t.halt ≡ None
ShowsServed t seats n status.WriteFault = (t.halt ≡ None) × HasRisen n.trace
ShowsServed t seats n status.OutOfMemory = ⊤
ShowsServed t seats n status.ClockFault = HasFallen t.halt ⊎ (0 < n.clock) ⊎ (0 < n.view)
ShowsServed t seats n status.LinkFault = (t.halt ≡ None) × HasRisen n.ports
ShowsServed t seats n status.NoThread = HasRisen n.crew
ShowsServed t seats n status.ClockEnd = t.halt ≡ Some halt.Far
ShowsServed t seats n status.JournalEnd = (t.halt ≡ None) × (4193281 ≤ length t.journal)
ShowsServed t seats n status.Torn = (torn : Torn) × IsFirstTorn t seats torn
ShowsServed t seats n _ = ⊥

-- How a run ends whose node was served: with the cause of its status, and the line of it said; with `Torn` where a seat
-- differs from the board, unless memory was short; and without seats only where it was.
pub record EndsServed (t : Ledger) (seats : List Slip) (n : Faults) (Says : List ℕ → Type 0) (s : Status) : Type 0 where
  pub shows : ShowsServed t seats n s
  pub torn : (s ≡ status.Torn) ⊎ (s ≡ status.OutOfMemory) ⊎ All (IsWhole t) seats
  pub seatless : seats ≡ [] → s ≡ status.OutOfMemory
  pub answer : Answer
  pub answer_is : IsAnswerOf t seats s answer
  pub said : Says answer.text

-- a trace was handed to its sink: all of it, or a prefix where the sink's count rose or memory was refused
abbrev pub IsWritten : List ℕ → Status → Option (List ℕ) → Option (List ℕ) → ℕ → ℕ → Type 0
IsWritten trace end old new before after =
    Appends old new trace ⊎ (AppendsFront old new trace × ((end ≡ status.OutOfMemory) ⊎ Rose before after))
