use Rattle.std.proofs.Common.{◌≡◌, ℕ, suc, ◌-◌, ◌≤◌, length}
use Rattle.gs_run.specs.Nets.{net_of}
use Rattle.gs_calendar.specs.Course.{course_of}
use Rattle.gs_seat.specs.Held.{IsWindow}
use Rattle.gs_piece.specs.Nodes.{AreNodes, midway, none_handed}
use Rattle.gs_piece.proofs.nodes.Nodes.take_turns.Given as goal

abbrev pub invariant-loop-i : goal.invariant-loop-i
invariant-loop-i l = record {
  inside : l.from ≤ length l.self.wake.items;
  count : length l.self.wake.items ≡ length l.fn.self.wake.items;
  nodes : (a b m : ℕ) → IsWindow (net_of l.plan) m (suc l.t) → AreNodes (net_of l.plan) (course_of l.script) (none_handed m) a b m (λ i. l.t) l.fn.self
      → AreNodes (net_of l.plan) (course_of l.script) (none_handed m) a b m (midway l.t l.from) l.self;
}

abbrev pub decreases-loop-i : goal.decreases-loop-i
decreases-loop-i l = length l.self.wake.items - l.from
