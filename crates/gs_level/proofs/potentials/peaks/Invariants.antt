use Rattle.std.proofs.Common.{◌≡◌, map}
use Rattle.std.specs.List.{range_with_len}
use Rattle.gs_plan.specs.Plans.{text_of, graph_of}
use Rattle.gs_level.specs.Peaks.{peak_of}
use Rattle.gs_plan.specs.Weights.{weight_in}
use Rattle.gs_level.proofs.potentials.peaks.Given as goal

abbrev pub invariant-loop-s : goal.invariant-loop-s
invariant-loop-s l = l.peaks.items ≡ map (peak_of (weight_in (text_of l.plan) (graph_of l.plan)) l.clocks) (range_with_len 0 l.s)
