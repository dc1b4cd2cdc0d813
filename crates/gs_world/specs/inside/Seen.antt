-- For private functions and proofs: how the fields of a world are seen.
use Rattle.std.specs.Prelude.{◌≡◌, ℕ, ◌<◌, length, map, slice_index_or}
use Rattle.gs_run.specs.Fast.{fast_in}
use Rattle.gs_world.specs.inside.Late.{AreDeadlines}
use Rattle.gs_run.specs.Nets.{net_of}
use Rattle.gs_world.specs.Placed.{Placed}
use Rattle.gs_run.specs.Reach.{IsReachable}
use Rattle.gs_world.specs.inside.Members.{member_of, IsMember}
use Rattle.gs_run.specs.World.{World, clocks_in}
use Rattle.gs_world.specs.declared.member.Member.{Member as Seat}
use Rattle.gs_world.specs.declared.world.World.TheInside.{Inside}

abbrev pub world_in : Inside → World
world_in a = record { quanta = a.quanta; members = map member_of a.members.items }

abbrev pub placed_of : Inside → Placed
placed_of a = record { plan = a.plan.now; world = world_in a }

-- What is true of the fields: some allowed events led to this world, each seat is told what the plan says of its node,
-- and what is kept beside the seats is right.
pub record IsInside (a : Inside) : Type 0 where
  pub members : (v : ℕ) (d : Seat) → v < length a.members.items
      → IsMember (net_of a.plan.now) v (slice_index_or a.members.items v d)
  pub reachable : IsReachable (net_of a.plan.now) (world_in a)
  pub clocks : a.clocks.items ≡ clocks_in (net_of a.plan.now) (world_in a)
  pub deadlines : AreDeadlines (net_of a.plan.now) (world_in a) a.deadlines
  pub fast : a.fast ≡ fast_in (world_in a)
