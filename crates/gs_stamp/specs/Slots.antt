-- What a stamper knows of the slots of its store.
use Rattle.std.specs.Prelude.{◌≡◌, ℕ, max, List, Option}
use Rattle.gs_stamp.specs.Format.{ceiling_in, or_zero}
use Rattle.gs_stamp.specs.declared.slots.Slot.{Slot}
use Rattle.gs_stamp.specs.declared.slots.Slot.TheVariants.{First, Second}
use Rattle.gs_stamp.specs.declared.slots.Slots.{Slots}

abbrev pub in_slot : Slot → Slots → Option ℕ
in_slot First slots = slots.first
in_slot Second slots = slots.second

-- the greatest ceiling
abbrev pub top_of : Slots → ℕ
top_of slots = max (or_zero slots.first) (or_zero slots.second)

-- the bytes have these slots
pub record Has (slots : Slots) (bytes : List ℕ) : Type 0 where
  pub first : ceiling_in First bytes ≡ slots.first
  pub second : ceiling_in Second bytes ≡ slots.second
