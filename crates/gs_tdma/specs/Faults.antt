-- Why there is no slot plan of this reach and slot.
use Rattle.std.specs.Prelude.{ℕ, List, [], ◌∷◌, ◌*◌, ◌^◌, ◌||◌, nat_le, nat_lt, Option}
use Rattle.std.specs.Bool.{then_some}
use Rattle.gs_units.specs.FirstFault.{first_some}
use Rattle.gs_plan.specs.declared.plan.Plan.{Plan}
use Rattle.gs_tdma.specs.Near.{guard_in}
use Rattle.gs_tdma.specs.declared.fault.SlotFault.{SlotFault}
use Rattle.gs_tdma.specs.declared.fault.SlotFault.TheVariants as fault

-- a reach is 1 to 4
abbrev pub slot_fault : Plan → ℕ → ℕ → Option SlotFault
slot_fault p reach slot = first_some (
    then_some (nat_lt reach 1 || nat_lt 4 reach) fault.Reach
    ∷ then_some (nat_le slot (2 * guard_in p reach) || nat_le (2 ^ 48) slot) fault.Slot
    ∷ [])
