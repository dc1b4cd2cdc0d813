use Rattle.std.proofs.Common.{◌≡◌, ◌++◌, ◌+◌, ◌*◌, ◌≤◌, ◌<◌, true, false, map, length, vec_len, Some, All}
use Rattle.std.specs.Vec.{vec_capacity}
use Rattle.std.specs.List.{AllZip, sum_by}
use Rattle.gs_net.specs.Tales.{whole, wholes}
use Rattle.gs_callers.specs.Seats.{SeatAgrees, SeatTaken}
use Rattle.gs_node.specs.Handing.{IsDropped}
use Rattle.gs_node.specs.inside.Begun.{of_task}
use Rattle.gs_node.proofs.joins.join_all.Given as goal

abbrev pub invariant-loop-one : goal.invariant-loop-one
invariant-loop-one g l = record {
  next : (goal.iterator-loop-one g).can_next l.one-iterator;
  finite : (goal.iterator-loop-one g).is_finite l.one-iterator;
  agree : AllZip (SeatAgrees l.fn.params) l.seats.items (map g.I.Inlet.tale l.inlets.items);
  whose : map (λ s. s.whose) l.seats.items ++ map (λ b. Some (of_task (λ t. t.receiver.neighbour) b)) l.one-iterator.rest.items ≡ map (λ b. Some (of_task (λ t. t.receiver.neighbour) b)) l.fn.begun.items;
  items : wholes g.I.Inlet.tale l.inlets.items ++ map (of_task (λ t. whole (g.I.Inlet.tale t.receiver.inlet))) l.one-iterator.rest.items ≡ map (of_task (λ t. whole (g.I.Inlet.tale t.receiver.inlet))) l.fn.begun.items;
  named : All (λ b. of_task (λ t. t.receiver.params.now) b ≡ l.fn.params) l.one-iterator.rest.items;
  taken : l.met.short ≡ false → AllZip (SeatTaken l.fn.params) l.seats.items (map g.I.Inlet.tale l.inlets.items);
  fault : l.met.fault ≡ true → 0 < sum_by g.I.Inlet.faults l.inlets.items;
  dropped : IsDropped l.fn.params (map (λ s. s.whose) l.seats.items) (map g.I.Inlet.tale l.inlets.items) l.met.dropped;
  few : l.met.dropped ≤ 281474976710656 * vec_len l.seats;
  count : vec_len l.seats + length l.one-iterator.rest.items ≤ 511;
  even : vec_len l.seats ≡ vec_len l.inlets;
  seat_room : vec_len l.seats + length l.one-iterator.rest.items ≤ vec_capacity l.seats;
  inlet_room : vec_len l.inlets + length l.one-iterator.rest.items ≤ vec_capacity l.inlets;
}
