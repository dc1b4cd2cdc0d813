use Rattle.std.proofs.Common.{ℕ, ◌≤◌}
use Rattle.gs_run.specs.Nets.{net_of}
use Rattle.gs_calendar.specs.Course.{course_of}
use Rattle.gs_seat.specs.Held.{IsWindow}
use Rattle.gs_play.specs.inside.Pieces.{ArePieces, handed_below}
use Rattle.gs_play.proofs.FromOne.{IsHanding}
use Rattle.gs_play.proofs.handing.hand_from.Given as goal

abbrev pub invariant-loop-i : goal.invariant-loop-i
invariant-loop-i l = (m t : ℕ) → m ≤ t → t ≤ l.script.quanta → IsWindow (net_of l.plan) m t
    → ArePieces (net_of l.plan) (course_of l.script) (handed_below m t l.from) l.size m t l.fn.pieces
    → (by : ℕ → ℕ → ℕ) × IsHanding (net_of l.plan) m t l.from l.i by × ArePieces (net_of l.plan) (course_of l.script) by l.size m t l.pieces
