use Rattle.std.proofs.Common.{◌≡◌, ◌+◌, ◌*◌, ◌++◌, map}
use Rattle.std.specs.List.{range_with_len}
use Rattle.gs_plan.proofs.shape.add_row.Given as goal

abbrev pub invariant-loop-col : goal.invariant-loop-col
invariant-loop-col l = l.edges.items ≡ l.initial.edges.items ++ map (λ c. (l.row * l.cols + c, l.row * l.cols + c + 1)) (range_with_len 0 l.col)
