use Rattle.std.proofs.Common.{◌≡◌, ◌<◌, ◌^◌, fold, map, max, take}
use Rattle.gs_plan.specs.Edges.{own_given}
use Rattle.gs_plan.specs.Numbers.{spread_in}
use Rattle.gs_plan.proofs.bounds.greatest_spread.Given as goal

abbrev pub invariant-loop-edge : goal.invariant-loop-edge
invariant-loop-edge l = (l.most ≡ fold max (spread_in l.text (own_given l.text)) (map (spread_in l.text) (take l.edge-index l.edges))) × (l.most < 2 ^ 64)
