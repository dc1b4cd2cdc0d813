use Rattle.std.proofs.Common.{◌≡◌, length}
use Rattle.gs_stamp.specs.Tears.{Leaves}
use Rattle.gs_stamp.proofs.in_memory.crashed.Given as goal

abbrev pub invariant-loop-place : goal.invariant-loop-place
invariant-loop-place l = record { left : Leaves l.fn.state.torn l.fn.state.bytes l.bytes; whole : length l.bytes ≡ 18 }
