-- Runs of a stamper over one store, one after the other, with crashes between them.
use Rattle.std.specs.Prelude.{◌≡◌, ℕ, ◌+◌, ◌<◌, ◌≤◌, List, [], ◌∷◌, ◌++◌}

-- stamps that rise, the first of them not below this number
abbrev pub RiseFrom : ℕ → List ℕ → Type 0
RiseFrom low [] = Unit {0}
RiseFrom low (stamp ∷ stamps) = (low ≤ stamp) × RiseFrom (stamp + 1) stamps

abbrev pub AllBelow : ℕ → List ℕ → Type 0
AllBelow high [] = Unit {0}
AllBelow high (stamp ∷ stamps) = (stamp < high) × AllBelow high stamps

-- a run: the ceiling that it found, the stamps that it issued, and the ceiling that was left when it stopped
pub record Run : Type 0 where
  pub found : ℕ
  pub stamps : List ℕ
  pub left : ℕ

-- what `open` and `stamp` ensure of a run, whenever it stopped
pub record IsRun (run : Run) : Type 0 where
  pub rise : RiseFrom run.found run.stamps
  pub below : AllBelow run.left run.stamps
  pub kept : run.found ≤ run.left

-- each run finds what the one before it left
abbrev pub AreRuns : ℕ → List Run → Type 0
AreRuns found [] = Unit {0}
AreRuns found (run ∷ runs) = (run.found ≡ found) × IsRun run × AreRuns run.left runs

-- all the stamps, in their order
abbrev pub stamps_of : List Run → List ℕ
stamps_of [] = []
stamps_of (run ∷ runs) = run.stamps ++ stamps_of runs

-- Stamps rise across restarts.
abbrev pub StampsRise : Type 0
StampsRise = (found : ℕ) (runs : List Run) → AreRuns found runs → RiseFrom found (stamps_of runs)
