use Rattle.std.proofs.Common.{◌≡◌, drop}
use Rattle.gs_tool.specs.Orders.{with_events}
use Rattle.gs_tool.proofs.order_text.write_events.Given as goal

abbrev pub invariant-loop-i : goal.invariant-loop-i
invariant-loop-i l = with_events l.text l.i (drop l.i l.events) ≡ with_events l.fn.text 0 l.events
