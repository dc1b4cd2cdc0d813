-- The 18 bytes of a store: two slots of nine bytes, each a gate and a ceiling.
use Rattle.std.specs.Prelude.{◌≡◌, ◌⊎◌, ℕ, ◌+◌, ◌==◌, nat_lt, max, List, [], ◌∷◌, take, drop, Option, Some, None, if◌then◌else◌}
use Rattle.byteorder.specs.Endian.{big_bytes, big_number}
use Rattle.gs_stamp.specs.Disk.{put}
use Rattle.gs_stamp.specs.declared.slots.Slot.{Slot}
use Rattle.gs_stamp.specs.declared.slots.Slot.TheVariants.{First, Second}

-- where a slot begins
abbrev pub place_of : Slot → ℕ
place_of First = 0
place_of Second = 9

abbrev pub other : Slot → Slot
other First = Second
other Second = First

-- the nine bytes of a slot
abbrev pub slot_bytes : Slot → List ℕ → List ℕ
slot_bytes First bytes = take 9 bytes
slot_bytes Second bytes = drop 9 bytes

-- the ceiling that a slot has, where its gate is open
abbrev pub open_ceiling : List ℕ → Option ℕ
open_ceiling [] = None
open_ceiling (gate ∷ number) = if gate == 1 then Some (big_number 8 number) else None

abbrev pub ceiling_in : Slot → List ℕ → Option ℕ
ceiling_in slot bytes = open_ceiling (slot_bytes slot bytes)

abbrev pub or_zero : Option ℕ → ℕ
or_zero None = 0
or_zero (Some n) = n

-- the greatest ceiling of an open slot, 0 where none is open
abbrev pub ceiling_of : List ℕ → ℕ
ceiling_of bytes = max (or_zero (ceiling_in First bytes)) (or_zero (ceiling_in Second bytes))

-- The slot that is not current, of slots with these ceilings where they are open. The current one is the first open
-- one that has the greatest ceiling, and the second where none is open.
abbrev pub spare_slot : Option ℕ → Option ℕ → Slot
spare_slot None second = First
spare_slot (Some first) second = if nat_lt first (or_zero second) then First else Second

abbrev pub spare_of : List ℕ → Slot
spare_of bytes = spare_slot (ceiling_in First bytes) (ceiling_in Second bytes)

-- the bytes with this ceiling in the slot that was not current, open
abbrev pub raised : ℕ → List ℕ → List ℕ
raised ceiling bytes = put (place_of (spare_of bytes)) (1 ∷ big_bytes 8 ceiling) bytes

-- the bytes after this stamp was issued, of which the ceiling is above it
abbrev pub stamped : ℕ → List ℕ → List ℕ
stamped stamp bytes = if nat_lt stamp (ceiling_of bytes) then bytes else raised (stamp + 1048576) bytes

-- new is old with this in one slot: a ceiling, or a closed gate
pub record With (slot : Slot) (ceiling : Option ℕ) (old new : List ℕ) : Type 0 where
  pub here : ceiling_in slot new ≡ ceiling
  pub there : ceiling_in (other slot) new ≡ ceiling_in (other slot) old

-- a crash left the ceiling that it might have left before, or the one that is being written
abbrev pub IsOldOrRaised : (List ℕ → Type 0) → ℕ → List ℕ → Type 0
IsOldOrRaised may_leave ceiling c = (d : List ℕ) × may_leave d × ((ceiling_of c ≡ ceiling_of d) ⊎ (ceiling_of c ≡ ceiling))
