use Rattle.std.proofs.Common.{◌≡◌, ℕ, ◌≤◌, length, map, slice_index, take}
use Rattle.gs_world.specs.inside.Members.{clock_at}
use Rattle.gs_world.proofs.clocks.renew.Given as goal

abbrev pub invariant-loop-v : goal.invariant-loop-v
invariant-loop-v l = record {
  places : length l.clocks ≡ length l.members;
  done : take l.v l.clocks ≡ take l.v (map clock_at l.members);
  rest : (k : ℕ) → l.v ≤ k → slice_index l.clocks k ≡ slice_index l.fn.clocks k;
}
