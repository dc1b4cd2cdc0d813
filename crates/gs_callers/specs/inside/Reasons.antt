-- For private functions and proofs: why a receiver stopped, as far as its inlet tells.
use Rattle.std.specs.Prelude.{◌≡◌, ℕ, ◌<◌, ◌≤◌, ◌⊎◌, true, is_some, [], Option, Some}
use Rattle.gs_beacon.specs.declared.beacon.Beacon.{Beacon}
use Rattle.gs_net.specs.Tales.{Tale}
use Rattle.gs_net.specs.Items.{datagrams, ends_in, is_quiet}
use Rattle.gs_callers.specs.declared.receiver.Refusal.{Refusal}
use Rattle.gs_callers.specs.declared.receiver.Stop.{Stop}
use Rattle.gs_callers.specs.declared.receiver.Stop.TheVariants as stop

-- what each reason to stop says of the inlet
pub record Stops (why : Stop) (told : Option Tale) (left_out : Option Beacon) (faults : ℕ) : Type 0 where
  pub ended : why ≡ stop.Ended → (t : Tale) → told ≡ Some t → t.left ≡ []
  pub quiet : why ≡ stop.Quiet → (t : Tale) → told ≡ Some t → ends_in is_quiet t.given ≡ true
  pub many : why ≡ stop.Many → (t : Tale) → told ≡ Some t → 64 ≤ datagrams t.given
  pub refused : (r : Refusal) → why ≡ stop.Refused r → is_some left_out ≡ true
  pub fault : why ≡ stop.Fault → 0 < faults

-- a beacon that was not left out stops nothing
pub record IsSettled (left_out : Option Beacon) (why : Stop) : Type 0 where
  pub only : (why ≡ stop.Open) ⊎ ((r : Refusal) × (why ≡ stop.Refused r) × (is_some left_out ≡ true))

-- after 64 datagrams the receiver may stop, and else as before
pub record IsAfter (before : Stop) (since : ℕ) (why : Stop) : Type 0 where
  pub only : (why ≡ before) ⊎ ((why ≡ stop.Many) × (64 ≤ since))
