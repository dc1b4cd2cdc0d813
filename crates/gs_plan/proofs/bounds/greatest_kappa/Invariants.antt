use Rattle.std.proofs.Common.{◌≡◌, ◌<◌, ◌^◌, fold, map, max, take}
use Rattle.gs_plan.specs.Edges.{own_given}
use Rattle.gs_plan.specs.Numbers.{kappa_in}
use Rattle.gs_plan.proofs.bounds.greatest_kappa.Given as goal

abbrev pub invariant-loop-edge : goal.invariant-loop-edge
invariant-loop-edge l = (l.most ≡ fold max (kappa_in l.text (own_given l.text)) (map (kappa_in l.text) (take l.edge-index l.edges))) × (l.most < 2 ^ 68)
