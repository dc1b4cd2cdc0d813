use Rattle.std.proofs.Common.{◌≡◌, fold, max, take}
use Rattle.gs_topo.proofs.distance_table.greatest.Given as goal

abbrev pub invariant-loop-steps : goal.invariant-loop-steps
invariant-loop-steps l = l.most ≡ fold max 0 (take l.steps-index l.table)
