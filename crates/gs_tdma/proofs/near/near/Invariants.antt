use Rattle.std.proofs.Common.{◌≡◌, ◌<◌, ◌^◌}
use Rattle.gs_plan.specs.Levels.{best_of}
use Rattle.gs_tdma.specs.Near.{bound_over}
use Rattle.gs_tdma.proofs.near.near.Given as goal

abbrev pub invariant-loop-below : goal.invariant-loop-below
invariant-loop-below l = record {
  value : l.near ≡ (best_of (bound_over l.plan l.reach) l.below).1;
  fits : l.near < 2 ^ 64;
}
