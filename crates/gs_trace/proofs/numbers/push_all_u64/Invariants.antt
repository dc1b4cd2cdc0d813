use Rattle.std.proofs.Common.{◌≡◌, ◌++◌, take}
use Rattle.gs_trace.specs.Numbers.{spelled}
use Rattle.gs_trace.proofs.numbers.push_all_u64.Given as goal

abbrev pub invariant-loop-n : goal.invariant-loop-n
invariant-loop-n l = l.bytes.items ≡ l.fn.bytes.items ++ spelled 8 (take l.n-index l.numbers)
