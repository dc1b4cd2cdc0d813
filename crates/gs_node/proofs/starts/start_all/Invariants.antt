use Rattle.std.proofs.Common.{◌≡◌, ◌++◌, ◌+◌, ◌≤◌, true, map, length, vec_len, Some, All}
use Rattle.std.specs.Vec.{vec_capacity}
use Rattle.gs_io.specs.Causes.{Rose}
use Rattle.gs_net.specs.Tales.{IsFresh, whole, wholes}
use Rattle.gs_node.specs.inside.Begun.{IsNewSeat, of_task}
use Rattle.gs_node.proofs.starts.start_all.Given as goal

abbrev pub invariant-loop-inlet : goal.invariant-loop-inlet
invariant-loop-inlet g l = record {
  next : (goal.iterator-loop-inlet g).can_next l.inlet-iterator;
  finite : (goal.iterator-loop-inlet g).is_finite l.inlet-iterator;
  params : All (λ b. of_task (λ t. t.receiver.params.now) b ≡ l.fn.params) l.begun.items;
  whose : map (λ b. Some (of_task (λ t. t.receiver.neighbour) b)) l.begun.items ++ map (λ s. s.whose) l.waiting.rest.items ≡ map (λ s. s.whose) l.fn.seats.items;
  items : map (of_task (λ t. whole (g.I.Inlet.tale t.receiver.inlet))) l.begun.items ++ wholes g.I.Inlet.tale l.inlet-iterator.rest.items ≡ wholes g.I.Inlet.tale l.fn.inlets.items;
  seats : All IsNewSeat l.waiting.rest.items;
  inlets : All IsFresh (map g.I.Inlet.tale l.inlet-iterator.rest.items);
  count : length l.waiting.rest.items ≡ length l.inlet-iterator.rest.items;
  room : vec_len l.begun + length l.inlet-iterator.rest.items ≤ vec_capacity l.begun;
  faults : g.W.Crew.faults l.initial.crew ≤ g.W.Crew.faults l.crew;
  refused : l.refused ≡ true → Rose (g.W.Crew.faults l.initial.crew) (g.W.Crew.faults l.crew);
}
