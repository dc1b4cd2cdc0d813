use Rattle.std.proofs.Common.{◌≡◌, ◌≤◌, fold, max, take}
use Rattle.gs_tdma.proofs.colours.count_of.Given as goal

abbrev pub invariant-loop-colour : goal.invariant-loop-colour
invariant-loop-colour l = record {
  value : l.greatest ≡ fold max 0 (take l.colour-index l.colours);
  few : l.greatest ≤ l.colour-index;
}
