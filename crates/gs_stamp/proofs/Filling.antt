-- What the steps of writing a ceiling into a closed slot leave.
use Rattle.std.proofs.Common.{◌≡◌, inl, inr, ◌⊎◌, ℕ, ◌+◌, ◌<◌, ◌^◌, List, [], ◌∷◌, length, Option, Some, None, option_map, refl, sym, ◌∙◌, ap, arith}
use Rattle.byteorder.specs.Endian.{big_bytes, big_number}
use Rattle.byteorder.specs.Numbers.{big_number-reads_back}
use Rattle.gs_stamp.specs.Disk.{Torn, put}
use Rattle.gs_stamp.specs.Format.{With, ceiling_in, place_of}
use Rattle.gs_stamp.specs.declared.slots.Slot.{Slot}
use Rattle.gs_stamp.proofs.Parts.{gate_torn, number_in, number_put, number_torn, opens, place_fits, put_before, put_torn}

-- what a told function of bytes gives comes from bytes that were told
pub mapped : (f : List ℕ → List ℕ) (old : Option (List ℕ)) (c : List ℕ) → option_map f old ≡ Some c → (b : List ℕ) × (old ≡ Some b) × (c ≡ f b)
mapped f None c is = absurd (cc)
mapped f (Some b) c is = let same : f b ≡ c = cc in (b, refl, sym same)

pub maps : (f g h : List ℕ → List ℕ) (old : Option (List ℕ)) → ((b : List ℕ) → old ≡ Some b → f (g b) ≡ h b) → option_map f (option_map g old) ≡ option_map h old
maps f g h None each = refl
maps f g h (Some b) each = ap (λ (l : List ℕ). Some l) (each b refl)

module _ (slot : Slot) (ceiling : ℕ) (fits : ceiling < 2 ^ 64) (b : List ℕ) (whole : length b ≡ 18) (closed : ceiling_in slot b ≡ None) where
  abbrev staged : List ℕ
  staged = put (place_of slot + 1) (big_bytes 8 ceiling) b

  staged_torn : Torn (place_of slot + 1) 8 b staged
  staged_torn = put_torn (place_of slot + 1) 8 (big_bytes 8 ceiling) b refl (omega (arith, place_fits slot, whole))

  staged_size : length staged ≡ 18
  staged_size = staged_torn.size ∙ whole

  -- the number stands behind the closed gate
  pub stages : With slot None b staged
  stages = number_torn slot b staged closed staged_torn

  number_is : number_in slot staged ≡ ceiling
  number_is = ap (λ (l : List ℕ). big_number 8 l) (number_put slot (big_bytes 8 ceiling) b refl whole) ∙ big_number-reads_back 8 ceiling [] fits

  -- the gate is torn, and the number counts or it does not
  pub torn_open : (c : List ℕ) → Torn (place_of slot) 1 staged c → With slot None b c ⊎ With slot (Some ceiling) b c
  torn_open c torn = elim (gate_torn slot staged c staged_size torn) [
    | inl w ↦ inl (record { here = w.here; there = w.there ∙ stages.there })
    | inr w ↦ inr (record { here = w.here ∙ ap (λ (n : ℕ). Some n) number_is; there = w.there ∙ stages.there })
  ]

  -- the gate is open
  pub opened : With slot (Some ceiling) b (put (place_of slot) (1 ∷ []) staged)
  opened = let w = opens slot staged staged_size in record { here = w.here ∙ ap (λ (n : ℕ). Some n) number_is; there = w.there ∙ stages.there }

  pub as_one : put (place_of slot) (1 ∷ []) staged ≡ put (place_of slot) (1 ∷ big_bytes 8 ceiling) b
  as_one = put_before (place_of slot) 1 (big_bytes 8 ceiling) b (omega (arith, place_fits slot, whole))
