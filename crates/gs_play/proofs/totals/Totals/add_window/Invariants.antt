use Rattle.std.proofs.Common.{ℕ, ◌+◌}
use Rattle.gs_run.specs.Nets.{net_of}
use Rattle.gs_script.specs.Script.{Said}
use Rattle.gs_calendar.specs.Course.{course_of}
use Rattle.gs_play.specs.inside.Pieces.{HaveRows}
use Rattle.gs_play.specs.inside.Totals.{AreTotals, IsCalm}
use Rattle.gs_play.proofs.totals.Totals.add_window.Given as goal

abbrev pub invariant-loop-j : goal.invariant-loop-j
invariant-loop-j l = (s : Said) (size m : ℕ) → IsCalm l.plan s (m + l.n) → HaveRows (net_of l.plan) (course_of s) size m l.n l.pieces
    → AreTotals l.plan (course_of s) m l.fn.self → AreTotals l.plan (course_of s) (m + l.j) l.self
