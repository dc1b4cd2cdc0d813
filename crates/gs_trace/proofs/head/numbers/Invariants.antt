use Rattle.std.proofs.Common.{◌≡◌}
use Rattle.gs_trace.specs.Numbers.{numbers_at}
use Rattle.gs_trace.proofs.head.numbers.Given as goal

abbrev pub invariant-loop-i : goal.invariant-loop-i
invariant-loop-i l = l.numbers.items ≡ numbers_at 8 l.i l.bytes
