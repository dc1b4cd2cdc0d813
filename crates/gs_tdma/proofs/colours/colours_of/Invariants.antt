use Rattle.gs_tdma.specs.inside.Kept.{AreLow}
use Rattle.gs_tdma.specs.Slots.{AreColours}
use Rattle.gs_tdma.proofs.colours.colours_of.Given as goal

abbrev pub invariant-loop-v : goal.invariant-loop-v
invariant-loop-v l = record {
  colours : AreColours l.topo l.reach l.colours.items l.v;
  low : AreLow l.colours.items;
}
