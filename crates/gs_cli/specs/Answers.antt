-- What answers the words of a command line, and what writing it does to a sink.
use Rattle.std.specs.Prelude.{◌≡◌, ℕ, ◌⊎◌, List, [], ◌∷◌, ◌++◌, Option, codes}
use Rattle.gs_io.specs.Causes.{Rose}
use Rattle.gs_io.specs.Held.{Appends, AppendsFront}
use Rattle.gs_cli.specs.declared.status.Status.{Status}
use Rattle.gs_cli.specs.declared.status.Status.TheVariants.{Usage, WriteFault}

-- What answers the words of a command line: the status, and the text that is written before it.
pub record Answer : Type 0 where
  pub status : Status
  pub text : List ℕ

-- a status with its line
abbrev pub line : Status → List ℕ → Answer
line status words = record { status = status; text = words ++ 10 ∷ [] }

-- words that are no command
abbrev pub usage : Answer
usage = line Usage (codes "usage: gradsync plan, play, trace, audit, replay, gen or node")

-- all of the answer was written
abbrev pub IsWhole : Answer → Option (List ℕ) → Option (List ℕ) → Status → Type 0
IsWhole answer old new status = (status ≡ answer.status) × Appends old new answer.text

-- the sink failed, and has a prefix of the answer
abbrev pub IsCut : Answer → Option (List ℕ) → Option (List ℕ) → ℕ → ℕ → Status → Type 0
IsCut answer old new before after status = (status ≡ WriteFault) × AppendsFront old new answer.text × Rose before after

-- What writing an answer does to a sink: `old` and `new` are its bytes, `before` and `after` its counts of faults.
abbrev pub Gives : Answer → Option (List ℕ) → Option (List ℕ) → ℕ → ℕ → Status → Type 0
Gives answer old new before after status = IsWhole answer old new status ⊎ IsCut answer old new before after status
