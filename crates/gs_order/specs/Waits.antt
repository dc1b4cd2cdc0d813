-- The commit wait.
use Rattle.std.specs.Prelude.{ℕ, ◌+◌, ◌<◌}
use Rattle.gs_plan.specs.Plans.{global_of}
use Rattle.gs_plan.specs.declared.plan.Plan.{Plan}
use Rattle.gs_run.specs.Nets.{net_of}
use Rattle.gs_run.specs.World.{World, clock_in}

-- G(0): how far any two clocks may be apart
abbrev pub wait_of : Plan → ℕ
wait_of p = global_of p

-- an event of this stamp can finish at node v, by its clock now
abbrev pub CanFinish : Plan → World → ℕ → ℕ → Type 0
CanFinish p w v stamp = stamp + wait_of p < clock_in (net_of p) w v
