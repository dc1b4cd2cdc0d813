use Rattle.std.proofs.Common.{◌≡◌, take, length}
use Rattle.gs_topo.specs.inside.Search.{all_tried}
use Rattle.gs_topo.proofs.search.relax.Given as goal

abbrev pub invariant-loop-step : goal.invariant-loop-step
invariant-loop-step l = record {
  count : length l.sums.items ≡ length l.initial.sums.items;
  state : record { sums = l.sums.items; pending = l.pending.items } ≡ all_tried l.here (record { sums = l.initial.sums.items; pending = l.initial.pending.items }) (take l.step-index l.steps);
}
