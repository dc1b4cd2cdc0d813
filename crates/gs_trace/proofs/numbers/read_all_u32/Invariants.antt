use Rattle.std.proofs.Common.{◌≡◌, take}
use Rattle.gs_trace.specs.Numbers.{numbers_at}
use Rattle.gs_trace.proofs.numbers.read_all_u32.Given as goal

abbrev pub invariant-loop-i : goal.invariant-loop-i
invariant-loop-i l = take l.i l.numbers ≡ numbers_at 4 l.i l.bytes
