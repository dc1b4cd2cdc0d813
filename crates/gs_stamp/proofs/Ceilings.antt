-- What a change of one slot makes of the ceiling.
use Rattle.std.proofs.Common.{◌≡◌, inl, inr, ◌⊎◌, ℕ, ◌≤◌, nat_lt, List, Option, Some, None, Bool, true, false, refl, ap, arith}
use Rattle.std.proofs.lemmas.Bool.Decides.{nat_tests}
use Rattle.gs_stamp.specs.Format.{With, ceiling_in, ceiling_of, or_zero, other, spare_of, spare_slot}
use Rattle.gs_stamp.specs.declared.slots.Slot.{Slot}
use Rattle.gs_stamp.specs.declared.slots.Slot.TheVariants.{First, Second}

-- a slot that does not have the greatest ceiling alone
abbrev pub IsSpare : Slot → List ℕ → Type 0
IsSpare slot bytes = or_zero (ceiling_in slot bytes) ≤ or_zero (ceiling_in (other slot) bytes)

spare_low : (first second : Option ℕ) → (spare_slot first second ≡ First) × (or_zero first ≤ or_zero second) ⊎ (spare_slot first second ≡ Second) × (or_zero second ≤ or_zero first)
spare_low None second = inl (refl, omega arith)
spare_low (Some first) second = go (nat_lt first (or_zero second)) refl
  where
    go : (less : Bool) → nat_lt first (or_zero second) ≡ less
        → (spare_slot (Some first) second ≡ First) × (first ≤ or_zero second) ⊎ (spare_slot (Some first) second ≡ Second) × (or_zero second ≤ first)
    go true is = inl (rw is refl, grind (arith, nat_tests))
    go false is = inr (rw is refl, grind (arith, nat_tests))

-- the slot that is not current is one
pub spare_is : (bytes : List ℕ) → IsSpare (spare_of bytes) bytes
spare_is bytes = elim (spare_low (ceiling_in First bytes) (ceiling_in Second bytes)) [
  | inl (is, low) ↦ rw is low
  | inr (is, low) ↦ rw is low
]

-- closing it leaves the ceiling
pub closed_keeps : (slot : Slot) (d c : List ℕ) → IsSpare slot d → With slot None d c → ceiling_of c ≡ ceiling_of d
closed_keeps First d c spare w = let a = ap or_zero w.here in let b = ap or_zero w.there in omega (arith, a, b, spare)
closed_keeps Second d c spare w = let a = ap or_zero w.here in let b = ap or_zero w.there in omega (arith, a, b, spare)

-- so does leaving it
pub same_keeps : (slot : Slot) (d c : List ℕ) → With slot (ceiling_in slot d) d c → ceiling_of c ≡ ceiling_of d
same_keeps First d c w = let a = ap or_zero w.here in let b = ap or_zero w.there in omega (arith, a, b)
same_keeps Second d c w = let a = ap or_zero w.here in let b = ap or_zero w.there in omega (arith, a, b)

-- a greater one becomes the ceiling
pub greater_is : (slot : Slot) (ceiling : ℕ) (d c : List ℕ) → ceiling_of d ≤ ceiling → With slot (Some ceiling) d c → ceiling_of c ≡ ceiling
greater_is First ceiling d c high w = let a = ap or_zero w.here in let b = ap or_zero w.there in omega (arith, a, b, high)
greater_is Second ceiling d c high w = let a = ap or_zero w.here in let b = ap or_zero w.there in omega (arith, a, b, high)
