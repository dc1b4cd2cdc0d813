-- How the events of a trace stand in bytes, one behind the other.
use Rattle.std.specs.Prelude.{ℕ, zero, suc, ◌+◌, ◌-◌, Bool, List, [], ◌∷◌, length, Option, Some, None, nat_lt, unwrap_or}
use Rattle.std.specs.Bool.{then_some}
use Rattle.std.specs.Option.{option_or}
use Rattle.gs_units.specs.FirstFault.{first_some}
use Rattle.gs_trace.specs.declared.fault.TraceFault.{TraceFault}
use Rattle.gs_trace.specs.declared.fault.TraceFault.TheVariants.{Kind, Cut, Beacon}

-- How many bytes an event has, by its first byte, where there is such a kind; the event that bytes begin with; and
-- whether what it carries is refused.
pub record Format (E : Type 0) : Type 0 where
  pub size : ℕ → Option ℕ
  pub event : List ℕ → E
  pub refused : List ℕ → Bool

-- why the event is refused that these bytes begin with, the first of which stands at a place
abbrev pub front_fault : {E : Type 0} → Format E → ℕ → Option ℕ → List ℕ → Option TraceFault
front_fault f place None bytes = Some (Kind place)
front_fault f place (Some size) bytes =
    first_some (then_some (nat_lt (length bytes) size) (Cut place) ∷ then_some (f.refused bytes) (Beacon place) ∷ [])

-- The fault of the first event at fault, behind the last `skip` bytes of another. The first of all bytes stands at a place.
abbrev pub fault_from : {E : Type 0} → Format E → ℕ → ℕ → List ℕ → Option TraceFault
fault_from f place skip [] = None
fault_from f place zero (b ∷ bs) =
    option_or (front_fault f place (f.size b) (b ∷ bs)) (fault_from f (place + 1) (unwrap_or (f.size b) 0 - 1) bs)
fault_from f place (suc skip) (b ∷ bs) = fault_from f (place + 1) skip bs

-- The events behind the last `skip` bytes of another, where none is at fault.
abbrev pub events_from : {E : Type 0} → Format E → ℕ → List ℕ → List E
events_from f skip [] = []
events_from f zero (b ∷ bs) = f.event (b ∷ bs) ∷ events_from f (unwrap_or (f.size b) 0 - 1) bs
events_from f (suc skip) (b ∷ bs) = events_from f skip bs
