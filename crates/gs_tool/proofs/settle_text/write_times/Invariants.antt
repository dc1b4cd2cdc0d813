use Rattle.std.proofs.Common.{◌≡◌}
use Rattle.gs_tool.specs.Settled.{with_times}
use Rattle.gs_tool.proofs.settle_text.write_times.Given as goal

abbrev pub invariant-loop-s : goal.invariant-loop-s
invariant-loop-s l = l.text ≡ with_times l.fn.text l.plan l.times l.last l.s
