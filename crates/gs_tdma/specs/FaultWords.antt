-- The words for why there is no slot plan.
use Rattle.std.specs.Prelude.{ℕ, List, codes}
use Rattle.gs_tdma.specs.declared.fault.SlotFault.{SlotFault}
use Rattle.gs_tdma.specs.declared.fault.SlotFault.TheVariants as fault

-- which of the two is at fault
abbrev pub why_of : SlotFault → List ℕ
why_of fault.Reach = codes "reach"
why_of fault.Slot = codes "slot"
why_of fault.OutOfMemory = codes "out of memory"
