use Rattle.std.proofs.Common.{◌≡◌, ℕ, ◌<◌, length, map, slice_index, slice_index_or}
use Rattle.std.specs.List.{range_with_len}
use Rattle.gs_run.specs.Nets.{net_of}
use Rattle.gs_world.specs.inside.Members.{IsMember, member_of}
use Rattle.gs_run.specs.World.{member_at_start}
use Rattle.gs_world.specs.declared.member.Member.{Member as Seat}
use Rattle.gs_world.proofs.world.World.start_each.Given as goal

abbrev pub invariant-loop-v : goal.invariant-loop-v
invariant-loop-v l = record {
  members : map member_of l.members.items ≡ map
      (λ v. member_at_start (net_of l.plan) v (slice_index l.hw v) (slice_index l.l0 v)) (range_with_len 0 l.v);
  each : (k : ℕ) (d : Seat) → k < length l.members.items → IsMember (net_of l.plan) k (slice_index_or l.members.items k d);
}
