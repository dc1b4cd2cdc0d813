use Rattle.std.proofs.Common.{◌≡◌, ◌++◌}
use Rattle.std.specs.List.{flat_map, range_with_len}
use Rattle.gs_plan.specs.Shapes.{row_edges}
use Rattle.gs_plan.proofs.shape.add_rows.Given as goal

abbrev pub invariant-loop-row : goal.invariant-loop-row
invariant-loop-row l = l.edges.items ≡ l.initial.edges.items ++ flat_map (row_edges l.cols) (range_with_len 0 l.row)
