use Rattle.std.proofs.Common.{◌≡◌, ◌*◌, ◌++◌}
use Rattle.gs_gen.specs.Draws.{drawn}
use Rattle.gs_gen.specs.Texts.{nodes_records}
use Rattle.gs_gen.proofs.script.write_nodes.Given as goal

abbrev pub invariant-loop-v : goal.invariant-loop-v
invariant-loop-v l = (l.text ≡ l.fn.text ++ nodes_records l.number l.size l.v) × (l.generator ≡ drawn l.number (3 * l.v))
