use Rattle.std.proofs.Common.{◌≡◌, map, take}
use Rattle.gs_plan.specs.Numbers.{numbers_in}
use Rattle.gs_plan.proofs.numbers.all_numbers.Given as goal

abbrev pub invariant-loop-edge : goal.invariant-loop-edge
invariant-loop-edge l = l.numbers.items ≡ map (numbers_in l.text) (take l.edge-index l.edges)
