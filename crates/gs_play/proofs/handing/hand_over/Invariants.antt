use Rattle.std.proofs.Common.{◌≡◌, ℕ, ◌-◌, ◌≤◌, length}
use Rattle.gs_run.specs.Nets.{net_of}
use Rattle.gs_calendar.specs.Course.{course_of}
use Rattle.gs_seat.specs.Held.{IsWindow}
use Rattle.gs_play.specs.inside.Pieces.{ArePieces, ArePiecesIn, handed_below}
use Rattle.gs_play.proofs.handing.hand_over.Given as goal

abbrev pub invariant-loop-from : goal.invariant-loop-from
invariant-loop-from l = record {
  inside : l.next ≤ (net_of l.plan).nodes;
  count : length l.pieces ≡ length l.fn.pieces;
  pieces : (m t : ℕ) → m ≤ t → t ≤ l.script.quanta → IsWindow (net_of l.plan) m t → ArePiecesIn (net_of l.plan) (course_of l.script) l.size m t l.fn.pieces
      → ArePieces (net_of l.plan) (course_of l.script) (handed_below m t l.next) l.size m t l.pieces;
}

abbrev pub decreases-loop-from : goal.decreases-loop-from
decreases-loop-from l = (net_of l.plan).nodes - l.next
