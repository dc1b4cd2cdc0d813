-- Stamps that rise, over one run and over many.
use Rattle.std.proofs.Common.{ℕ, ◌+◌, ◌≤◌, List, [], ◌∷◌, ◌++◌, subst, arith}
use Rattle.gs_stamp.specs.Restarts.{AllBelow, AreRuns, RiseFrom, Run, stamps_of}

from_lower : (low high : ℕ) (stamps : List ℕ) → low ≤ high → RiseFrom high stamps → RiseFrom low stamps
from_lower low high [] le rise = tt
from_lower low high (s ∷ stamps) le rise = (omega (arith, rise.0), rise.1)

pub then_rise : (low high : ℕ) (first second : List ℕ) → low ≤ high → RiseFrom low first → AllBelow high first → RiseFrom high second → RiseFrom low (first ++ second)
then_rise low high [] second le rise below then_on = from_lower low high second le then_on
then_rise low high (s ∷ first) second le rise below then_on = (rise.0, then_rise (s + 1) high first second (omega (arith, below.0)) rise.1 below.1 then_on)

pub all_rise : (found : ℕ) (runs : List Run) → AreRuns found runs → RiseFrom found (stamps_of runs)
all_rise found [] are = tt
all_rise found (run ∷ runs) (is, run_is, rest) =
    then_rise found run.left run.stamps (stamps_of runs) (omega (arith, is, run_is.kept)) (subst (λ (n : ℕ). RiseFrom n run.stamps) is run_is.rise) run_is.below (all_rise run.left runs rest)
