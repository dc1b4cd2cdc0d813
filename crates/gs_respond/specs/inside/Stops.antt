-- For private functions and proofs: what each reason to stop says of a responder's door and its clock.
use Rattle.std.specs.Prelude.{◌≡◌, ℕ, ◌<◌, ◌≤◌, ◌⊎◌, true, [], Option, Some, None}
use Rattle.gs_net.specs.Tales.{Tale}
use Rattle.gs_net.specs.Items.{datagrams, ends_in, is_quiet}
use Rattle.gs_respond.specs.declared.rests.Rest.{Rest}
use Rattle.gs_respond.specs.declared.rests.Rest.TheVariants as rest

-- what a reason to stop says, where `door` and `clock` are the counts of faults
pub record Rests (why : Rest) (tale : Option Tale) (owed : Option ℕ) (door clock : ℕ) : Type 0 where
  pub ended : why ≡ rest.Ended → (owed ≡ None) × ((t : Tale) → tale ≡ Some t → t.left ≡ [])
  pub quiet : why ≡ rest.Quiet → (owed ≡ None) × ((t : Tale) → tale ≡ Some t → ends_in is_quiet t.given ≡ true)
  pub many : why ≡ rest.Many → (owed ≡ None) × ((t : Tale) → tale ≡ Some t → 64 ≤ datagrams t.given)
  pub clock_failed : why ≡ rest.Clock → 0 < clock
  pub door_failed : why ≡ rest.Door → 0 < door

-- a datagram's answer stops a responder only where a reply is owed and the clock or the door has failed
pub record IsReplied (owed : Option ℕ) (why : Rest) (door clock : ℕ) : Type 0 where
  pub only : ((why ≡ rest.Open) × (owed ≡ None)) ⊎ (((why ≡ rest.Clock) × (0 < clock)) ⊎ ((why ≡ rest.Door) × (0 < door)))

-- after 64 datagrams a responder that goes on may stop
pub record IsLater (before : Rest) (since : ℕ) (why : Rest) : Type 0 where
  pub only : (why ≡ before) ⊎ ((why ≡ rest.Many) × (before ≡ rest.Open) × (64 ≤ since))
