use Rattle.std.proofs.Common.{◌≡◌, ℕ, suc, ◌<◌, ◌≤◌, length, slice_index_or}
use Rattle.gs_calendar.specs.Course.{course_of}
use Rattle.gs_calendar.specs.inside.Coming.{IsAhead}
use Rattle.gs_calendar.specs.declared.ahead.Ahead.{Ahead}
use Rattle.gs_calendar.proofs.ahead.go_on.Given as goal

abbrev pub invariant-loop-v : goal.invariant-loop-v
invariant-loop-v l = record {
  count : length l.ahead ≡ length l.fn.ahead;
  done : (u : ℕ) (d : Ahead) → u < l.v → IsAhead (course_of l.script) u (suc l.now) (slice_index_or l.ahead u d);
  rest : (u : ℕ) (d : Ahead) → l.v ≤ u → slice_index_or l.ahead u d ≡ slice_index_or l.fn.ahead u d;
}
