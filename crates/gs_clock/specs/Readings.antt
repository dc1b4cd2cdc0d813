-- What a clock tells of its readings, and what a clock in memory is.
use Rattle.std.specs.Prelude.{◌≡◌, ℕ, List, [], ◌∷◌, Option, Some, None}
use Rattle.gs_io.specs.Causes.{counted}

-- the next of these readings
abbrev pub first_of : List ℕ → ℕ
first_of [] = 0
first_of (n ∷ readings) = n

-- the readings that come after it: the last one comes again
abbrev pub rest_of : List ℕ → List ℕ
rest_of [] = []
rest_of (n ∷ []) = n ∷ []
rest_of (n ∷ next ∷ readings) = next ∷ readings

-- where the readings are told, this is the next, and it was taken
abbrev pub Reads : Option (List ℕ) → Option (List ℕ) → ℕ → Type 0
Reads None new n = new ≡ None
Reads (Some readings) new n = (n ≡ first_of readings) × (new ≡ Some (rest_of readings))

-- a clock in memory: the readings to come, the numbers of the reads that are to fail, how many there were, and how many
-- failed
pub record Told : Type 0 where
  pub left : List ℕ
  pub fails : List ℕ
  pub calls : ℕ
  pub faults : ℕ

-- after a read that gave a reading
abbrev pub after_reading : Told → Told
after_reading clock = record clock { left = rest_of clock.left; calls = counted clock.calls }

-- after a read that failed
abbrev pub after_failed_reading : Told → Told
after_failed_reading clock = record clock { calls = counted clock.calls; faults = counted clock.faults }
