-- What is known of a store by its slots.
use Rattle.std.proofs.Common.{◌≡◌, ℕ, ◌+◌, ◌<◌, ◌≤◌, nat_lt, List, [], ◌∷◌, length, Option, Some, None, option_map, Bool, true, false, refl, sym, ◌∙◌, ap, subst, arith}
use Rattle.std.proofs.lemmas.Bool.Decides.{nat_tests}
use Rattle.byteorder.specs.Endian.{big_bytes}
use Rattle.gs_stamp.specs.Disk.{put}
use Rattle.gs_stamp.specs.Format.{With, ceiling_in, ceiling_of, or_zero, other, place_of, raised, spare_of, spare_slot, stamped}
use Rattle.gs_stamp.specs.Slots.{Has, in_slot, top_of}
use Rattle.gs_stamp.specs.declared.slots.Slot.{Slot}
use Rattle.gs_stamp.specs.declared.slots.Slot.TheVariants.{First, Second}
use Rattle.gs_stamp.specs.declared.slots.Slots.{Slots}
use Rattle.gs_stamp.proofs.Ceilings.{IsSpare, spare_is}
use Rattle.gs_stamp.proofs.Parts.{place_fits, put_over}

pub top_is : (slots : Slots) (d : List ℕ) → Has slots d → ceiling_of d ≡ top_of slots
top_is slots d has = let a = ap or_zero has.first in let b = ap or_zero has.second in omega (arith, a, b)

pub spare_same : (slots : Slots) (d : List ℕ) (spare : Slot) → Has slots d → spare ≡ spare_slot slots.first slots.second → spare_of d ≡ spare
spare_same slots d spare has is = ap (λ (o : Option ℕ). spare_slot o (ceiling_in Second d)) has.first ∙ ap (λ (o : Option ℕ). spare_slot slots.first o) has.second ∙ sym is

pub spare_known : (slots : Slots) (d : List ℕ) (spare : Slot) → Has slots d → spare ≡ spare_slot slots.first slots.second → IsSpare spare d
spare_known slots d spare has is = subst (λ (k : Slot). IsSpare k d) (spare_same slots d spare has is) (spare_is d)

-- the slots after one of them was filled
pub has_with : (slot : Slot) (ceiling : ℕ) (slots new : Slots) (d c : List ℕ) → Has slots d → With slot (Some ceiling) d c
    → in_slot slot new ≡ Some ceiling → in_slot (other slot) new ≡ in_slot (other slot) slots → Has new c
has_with First ceiling slots new d c has w own rest = record { first = w.here ∙ sym own; second = w.there ∙ has.second ∙ sym rest }
has_with Second ceiling slots new d c has w own rest = record { first = w.there ∙ has.first ∙ sym rest; second = w.here ∙ sym own }

-- functions that agree on what is told
pub agree : (f h : List ℕ → List ℕ) (old : Option (List ℕ)) → ((b : List ℕ) → old ≡ Some b → f b ≡ h b) → option_map f old ≡ option_map h old
agree f h None each = refl
agree f h (Some b) each = ap (λ (l : List ℕ). Some l) (each b refl)

pub unchanged : (h : List ℕ → List ℕ) (old : Option (List ℕ)) → ((b : List ℕ) → old ≡ Some b → h b ≡ b) → old ≡ option_map h old
unchanged h None each = refl
unchanged h (Some b) each = ap (λ (l : List ℕ). Some l) (sym (each b refl))

-- a ceiling that is filled in is the raised one, whether its gate was closed before or not
pub raises : (slots : Slots) (spare : Slot) (ceiling : ℕ) (d : List ℕ) → Has slots d → spare ≡ spare_slot slots.first slots.second → put (place_of spare) (1 ∷ big_bytes 8 ceiling) d ≡ raised ceiling d
raises slots spare ceiling d has is = ap (λ (k : Slot). put (place_of k) (1 ∷ big_bytes 8 ceiling) d) (sym (spare_same slots d spare has is))

pub raises_closed : (slots : Slots) (spare : Slot) (ceiling : ℕ) (d : List ℕ) → length d ≡ 18 → Has slots d → spare ≡ spare_slot slots.first slots.second
    → put (place_of spare) (1 ∷ big_bytes 8 ceiling) (put (place_of spare) (0 ∷ []) d) ≡ raised ceiling d
raises_closed slots spare ceiling d whole has is =
    put_over (place_of spare) (0 ∷ []) (1 ∷ big_bytes 8 ceiling) d (omega arith) (omega (arith, place_fits spare, whole)) ∙ raises slots spare ceiling d has is

pub stamped_low : (slots : Slots) (stamp : ℕ) (d : List ℕ) → Has slots d → stamp < top_of slots → stamped stamp d ≡ d
stamped_low slots stamp d has low = go (nat_lt stamp (ceiling_of d)) refl
  where
    above : stamp < ceiling_of d
    above = omega (arith, low, top_is slots d has)

    go : (less : Bool) → nat_lt stamp (ceiling_of d) ≡ less → stamped stamp d ≡ d
    go true is = rw is refl
    go false is = absurd (grind (arith, nat_tests, above))

pub stamped_high : (slots : Slots) (stamp : ℕ) (d : List ℕ) → Has slots d → top_of slots ≤ stamp → raised (stamp + 1048576) d ≡ stamped stamp d
stamped_high slots stamp d has high = go (nat_lt stamp (ceiling_of d)) refl
  where
    below : ceiling_of d ≤ stamp
    below = omega (arith, high, top_is slots d has)

    go : (less : Bool) → nat_lt stamp (ceiling_of d) ≡ less → raised (stamp + 1048576) d ≡ stamped stamp d
    go true is = absurd (grind (arith, nat_tests, below))
    go false is = rw is refl
