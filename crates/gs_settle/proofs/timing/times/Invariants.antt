use Rattle.std.proofs.Common.{◌≡◌, ◌+◌, ◌*◌, ◌<◌, ◌^◌, map}
use Rattle.std.specs.List.{range_with_len}
use Rattle.gs_run.specs.Nets.{net_of}
use Rattle.gs_settle.specs.Times.{level_time}
use Rattle.gs_settle.proofs.timing.times.Given as goal

abbrev pub invariant-loop-s : goal.invariant-loop-s
invariant-loop-s l = record {
  at : l.at ≡ level_time (net_of l.plan) l.gamma l.s;
  small : l.at < 2 ^ 110 + 2 ^ 64 * l.s;
  times : l.times.items ≡ map (level_time (net_of l.plan) l.gamma) (range_with_len 0 (l.s + 1));
}
