use Rattle.std.proofs.Common.{◌≡◌, map, take}
use Rattle.gs_world.specs.inside.Delays.{delay_of}
use Rattle.gs_run.specs.Net.{neighbours}
use Rattle.gs_run.specs.Nets.{net_of}
use Rattle.gs_world.proofs.delay.delays.Given as goal

abbrev pub invariant-loop-x : goal.invariant-loop-x
invariant-loop-x l =
    l.delays.items ≡ map (delay_of (net_of l.plan) l.v) (take l.x-index (neighbours (net_of l.plan) l.v))
