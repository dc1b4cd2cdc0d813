use Rattle.std.proofs.Common.{◌≡◌, ◌++◌, List, ℕ, length}
use Rattle.gs_io.specs.Held.{Appends}
use Rattle.gs_io.proofs.sinks.write_whole.Given as goal

abbrev pub invariant-loop-rest : goal.invariant-loop-rest
invariant-loop-rest g l = (front : List ℕ) × (l.fn.piece ≡ front ++ l.rest) × Appends (g.W.Write.contents l.initial.stream) (g.W.Write.contents l.stream) front

abbrev pub decreases-loop-rest : goal.decreases-loop-rest
decreases-loop-rest g l = length l.rest
