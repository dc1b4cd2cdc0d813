use Rattle.std.proofs.Common.{◌≡◌, fold, map, max, take}
use Rattle.gs_plan.proofs.bounds.greatest_delay.Given as goal

abbrev pub invariant-loop-edge : goal.invariant-loop-edge
invariant-loop-edge l = l.most ≡ fold max l.text.delay_max (map (λ e. e.delay_max) (take l.edge-index l.edges))
