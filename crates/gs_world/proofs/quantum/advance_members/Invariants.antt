use Rattle.std.proofs.Common.{◌≡◌, ℕ, ◌<◌, ◌≤◌, length, slice_index, slice_index_or}
use Rattle.gs_world.specs.inside.Members.{advanced_seat}
use Rattle.gs_world.specs.declared.member.Member.{Member as Seat}
use Rattle.gs_world.proofs.quantum.advance_members.Given as goal

abbrev pub invariant-loop-i : goal.invariant-loop-i
invariant-loop-i l = record {
  count : length l.members ≡ length l.fn.members;
  done : (k : ℕ) (d : Seat) → k < l.i → slice_index_or l.members k d ≡ advanced_seat (slice_index_or l.fn.members k d)
      (slice_index l.incs k);
  rest : (k : ℕ) (d : Seat) → l.i ≤ k → k < length l.members → slice_index_or l.members k d ≡ slice_index_or l.fn.members k d;
}
