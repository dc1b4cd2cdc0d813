use Rattle.std.proofs.Common.{◌≡◌, All, take}
use Rattle.gs_topo.proofs.weights.common_length.Given as goal

abbrev pub invariant-loop-length : goal.invariant-loop-length
invariant-loop-length l = All (λ length. length ≡ l.common) (take l.length-index l.lengths)
