use Rattle.std.proofs.Common.{◌≡◌, map, take, All}
use Rattle.gs_units.specs.Offsets.{IsOffset}
use Rattle.gs_estimate.specs.Entries.{offset_of}
use Rattle.gs_estimate.proofs.slots.Slots.write_offsets.Given as goal

abbrev pub invariant-loop-i : goal.invariant-loop-i
invariant-loop-i l = record {
  written : take l.i l.out ≡ map (offset_of l.l l.now) (take l.i l.self);
  within : All IsOffset (take l.i l.out);
}
