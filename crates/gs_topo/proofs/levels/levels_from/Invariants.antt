use Rattle.std.proofs.Common.{◌≡◌, ◌+◌, ◌*◌, length, map, sum}
use Rattle.std.specs.List.{range_with_len}
use Rattle.gs_topo.specs.Graph.{Graph, adjacent, neighbours_of}
use Rattle.gs_topo.specs.inside.Search.{far_level}
use Rattle.gs_topo.specs.Walks.{one_each}
use Rattle.gs_topo.proofs.Relaxing.{rest_of}
use Rattle.gs_topo.proofs.Searching.{IsWithin, IsUnderWay}
use Rattle.gs_topo.proofs.levels.levels_from.Given as goal

abbrev pub invariant-loop-next : goal.invariant-loop-next
invariant-loop-next l = record {
  within : IsWithin (length l.lists) far_level (rest_of l.next (record { sums = l.levels.items; pending = l.queue.items }));
  under_way : (g : Graph) → l.lists ≡ map (neighbours_of g) (range_with_len 0 g.nodes) → IsUnderWay (length l.lists) (adjacent g) one_each far_level l.source (rest_of l.next (record { sums = l.levels.items; pending = l.queue.items }));
}

abbrev pub decreases-loop-next : goal.decreases-loop-next
decreases-loop-next l = 2 * sum l.levels.items + length (rest_of l.next (record { sums = l.levels.items; pending = l.queue.items })).pending
