-- Which stamps a run of the command `stamp` issues, where the readings of its clock are told.
use Rattle.std.specs.Prelude.{◌≡◌, ℕ, zero, suc, ◌+◌, ◌^◌, ◌<◌, nat_lt, max, List, length, [], ◌∷◌, ◌++◌, if◌then◌else◌}
use Rattle.gs_clock.specs.Readings.{first_of, rest_of}
use Rattle.gs_cli.specs.declared.status.Status.{Status}
use Rattle.gs_cli.specs.declared.status.Status.TheVariants.{Done, StampEnd}

-- the stamps at these readings, the first of them not below `next`: one for each reading, up to the first for which none
-- is left
abbrev pub issued : ℕ → ℕ → List ℕ → List ℕ
issued zero next readings = []
issued (suc n) next readings =
    if nat_lt (max next (first_of readings) + 1048576) (2 ^ 62)
    then max next (first_of readings) ∷ issued n (max next (first_of readings) + 1) (rest_of readings)
    else []

-- of so many stamps that were asked for these are the first, those before the run stopped; all of them, or all for
-- which there was room, where its status says so
pub record AreFirst (count low : ℕ) (readings stamps : List ℕ) (status : Status) : Type 0 where
  pub rest : List ℕ
  pub front : issued count low readings ≡ stamps ++ rest
  pub done : status ≡ Done → (rest ≡ []) × (length stamps ≡ count)
  pub ended : status ≡ StampEnd → (rest ≡ []) × (length stamps < count)
