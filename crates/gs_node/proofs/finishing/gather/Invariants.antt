use Rattle.std.proofs.Common.{◌≡◌, ◌++◌, ◌∷◌, ◌+◌, ◌≤◌, length, vec_len}
use Rattle.std.specs.Vec.{vec_capacity}
use Rattle.gs_node.proofs.finishing.gather.Given as goal

abbrev pub invariant-loop-seat : goal.invariant-loop-seat
invariant-loop-seat g l = record {
  next : (goal.iterator-loop-seat g).can_next l.seat-iterator;
  finite : (goal.iterator-loop-seat g).is_finite l.seat-iterator;
  all : l.seats.items ++ l.seat-iterator.rest.items ≡ l.fn.timer ∷ l.fn.others.items;
  room : vec_len l.seats + length l.seat-iterator.rest.items ≤ vec_capacity l.seats;
}
