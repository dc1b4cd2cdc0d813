-- Which event is the first at fault, said without a scan.
use Rattle.std.specs.Prelude.{◌≡◌, ℕ, ◌+◌, List, ◌∷◌, ◌++◌, length, All, Some}
use Rattle.std.specs.List.{flat_map}
use Rattle.gs_trace.specs.Formats.{Format, front_fault}
use Rattle.gs_trace.specs.declared.fault.TraceFault.{TraceFault}

-- The fault is that of the first event at fault, where the first of all bytes stands at a place: before it stand
-- whole events, and behind them the bytes of an event that has this fault.
pub record IsFirst {E : Type 0} (f : Format E) (bytes_of : E → List ℕ) (Fits : E → Type 0) (place : ℕ) (bytes : List ℕ) (fault : TraceFault) : Type 0 where
  pub before : List E
  pub kind : ℕ
  pub rest : List ℕ
  pub fits : All Fits before
  pub is : bytes ≡ flat_map bytes_of before ++ kind ∷ rest
  pub front : front_fault f (place + length (flat_map bytes_of before)) (f.size kind) (kind ∷ rest) ≡ Some fault
