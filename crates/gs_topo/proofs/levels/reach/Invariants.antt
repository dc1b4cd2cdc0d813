use Rattle.std.proofs.Common.{◌≡◌, take, length}
use Rattle.gs_topo.specs.inside.Search.{all_reached}
use Rattle.gs_topo.proofs.levels.reach.Given as goal

abbrev pub invariant-loop-node : goal.invariant-loop-node
invariant-loop-node l = record {
  count : length l.levels.items ≡ length l.initial.levels.items;
  state : record { sums = l.levels.items; pending = l.queue.items } ≡ all_reached l.level (record { sums = l.initial.levels.items; pending = l.initial.queue.items }) (take l.node-index l.nodes);
}
