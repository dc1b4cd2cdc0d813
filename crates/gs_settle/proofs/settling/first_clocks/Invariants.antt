use Rattle.std.proofs.Common.{◌≡◌, ◌≤◌, All, map}
use Rattle.std.specs.List.{range_with_len}
use Rattle.gs_settle.specs.Plays.{first_clock}
use Rattle.gs_settle.proofs.settling.first_clocks.Given as goal

abbrev pub invariant-loop-v : goal.invariant-loop-v
invariant-loop-v l = record {
  value : l.clocks.items ≡ map (first_clock l.gamma l.nodes) (range_with_len 0 l.v);
  within : All (λ clock. clock ≤ l.gamma) l.clocks.items;
}
