use Rattle.std.proofs.Common.{◌≡◌, None, replicate}
use Rattle.gs_plan.proofs.checking.no_spans.Given as goal

abbrev pub invariant-loop-edge : goal.invariant-loop-edge
invariant-loop-edge l = l.found.items ≡ replicate l._edge None
