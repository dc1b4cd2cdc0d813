use Rattle.std.proofs.Common.{◌≡◌, ℕ, ◌<◌, length, slice_index_or}
use Rattle.gs_calendar.specs.Course.{course_of}
use Rattle.gs_calendar.specs.inside.Coming.{IsAhead}
use Rattle.gs_calendar.specs.declared.ahead.Ahead.{Ahead}
use Rattle.gs_calendar.proofs.ahead.first_ahead.Given as goal

abbrev pub invariant-loop-v : goal.invariant-loop-v
invariant-loop-v l = record {
  count : length l.list.items ≡ l.v;
  each : (u : ℕ) (d : Ahead) → u < l.v → IsAhead (course_of l.script) u 1 (slice_index_or l.list.items u d);
}
