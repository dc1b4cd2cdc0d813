use Rattle.std.proofs.Common.{[]}
use Rattle.gs_io.specs.Held.{Appends}
use Rattle.gs_io.proofs.sinks.write_some.Given as goal

abbrev pub invariant-loop : goal.invariant-loop
invariant-loop g l = Appends (g.W.Write.contents l.initial.stream) (g.W.Write.contents l.stream) []
