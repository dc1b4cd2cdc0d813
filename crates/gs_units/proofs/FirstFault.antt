-- What the first of some faults says of each.
use Rattle.std.proofs.Common.{◌≡◌, Bool, true, false, Option, Some, None, refl, ap}
use Rattle.std.specs.Bool.{then_some}
use Rattle.std.specs.Option.{option_or}

-- a test that gives no fault fails
pub test_fails : {F : Type 0} (test : Bool) (f : F) → then_some test f ≡ None → test ≡ false
test_fails true f none = absurd (cc)
test_fails false f none = refl

-- where there is no first fault, the first test fails, and there is none later
pub first_fails : {F : Type 0} (test : Bool) (f : F) (later : Option F) → option_or (then_some test f) later ≡ None → (test ≡ false) × (later ≡ None)
first_fails true f later none = absurd (cc)
first_fails false f later none = (refl, none)

-- the same of a fault that is no test
pub none_of : {F : Type 0} (o later : Option F) → option_or o later ≡ None → (o ≡ None) × (later ≡ None)
none_of None later none = (refl, none)
none_of (Some f) later none = absurd (cc)

-- a fault is the first, whatever comes later
pub first_is : {F : Type 0} (o later : Option F) (f : F) → o ≡ Some f → option_or o later ≡ Some f
first_is {F} o later f some = ap (λ (x : Option F). option_or x later) some

-- where there is none here, the first is the first of the later ones
pub later_is : {F : Type 0} (o later : Option F) → o ≡ None → option_or o later ≡ later
later_is {F} o later none = ap (λ (x : Option F). option_or x later) none

-- behind the last there is none
pub last_is : {F : Type 0} (o : Option F) → option_or o None ≡ o
last_is None = refl
last_is (Some f) = refl
