use Rattle.std.proofs.Common.{ℕ, suc, ◌<◌, slice_index}
use Rattle.gs_run.specs.Net.{neighbours}
use Rattle.gs_run.specs.Nets.{net_of}
use Rattle.gs_calendar.specs.Course.{course_of}
use Rattle.gs_calendar.specs.inside.Feeds.{Grows, HasSent}
use Rattle.gs_calendar.proofs.sending.send.Given as goal

abbrev pub invariant-loop-to : goal.invariant-loop-to
invariant-loop-to l = record {
  grows : Grows (net_of l.plan) (course_of l.script) l.t l.initial.waiting l.waiting;
  sent : (j : ℕ) → j < l.to-index → HasSent (net_of l.plan) (course_of l.script) (suc l.t) l.from (slice_index (neighbours (net_of l.plan) l.from) j) l.waiting;
}
