use Rattle.std.proofs.Common.{ℕ, ◌+◌}
use Rattle.gs_run.specs.Nets.{net_of}
use Rattle.gs_calendar.specs.Course.{course_of}
use Rattle.gs_piece.specs.Pieces.{HasRows, IsPieceIn}
use Rattle.gs_piece.proofs.piece.Piece.run.Given as goal

abbrev pub invariant-loop-j : goal.invariant-loop-j
invariant-loop-j l = record {
  piece : (a b : ℕ) → IsPieceIn (net_of l.plan) (course_of l.script) a b l.m l.m l.fn.self → IsPieceIn (net_of l.plan) (course_of l.script) a b l.m (l.m + l.j) l.self;
  rows : (a b : ℕ) → IsPieceIn (net_of l.plan) (course_of l.script) a b l.m l.m l.fn.self → HasRows (net_of l.plan) (course_of l.script) a b l.m l.j l.self;
}
