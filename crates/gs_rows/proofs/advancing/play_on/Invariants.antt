use Rattle.std.proofs.Common.{◌≡◌, None, length}
use Rattle.gs_run.specs.Nets.{net_of}
use Rattle.gs_rows.specs.inside.Onward.{left_of, GoesOn}
use Rattle.gs_rows.proofs.advancing.play_on.Given as goal

abbrev pub invariant-loop-world : goal.invariant-loop-world
invariant-loop-world l = record {
  plan : l.world.plan ≡ l.fn.world.plan;
  on : GoesOn (net_of l.fn.world.plan) l.fn.world.world (left_of l.fn.held l.fn.feed) None l.world.world (left_of l.held l.feed);
}

abbrev pub decreases-loop-world : goal.decreases-loop-world
decreases-loop-world l = length (left_of l.held l.feed)
