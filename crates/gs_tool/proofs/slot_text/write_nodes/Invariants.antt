use Rattle.std.proofs.Common.{◌≡◌}
use Rattle.gs_tool.specs.Slotted.{with_nodes}
use Rattle.gs_tool.proofs.slot_text.write_nodes.Given as goal

abbrev pub invariant-loop-v : goal.invariant-loop-v
invariant-loop-v l = l.text ≡ with_nodes l.fn.text l.slots l.sent l.v
