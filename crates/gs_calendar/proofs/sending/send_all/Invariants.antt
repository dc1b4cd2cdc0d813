use Rattle.std.proofs.Common.{◌≡◌, ℕ, suc, ◌<◌}
use Rattle.gs_run.specs.Nets.{net_of}
use Rattle.gs_calendar.specs.Calendar.{turn}
use Rattle.gs_calendar.specs.Course.{course_of}
use Rattle.gs_calendar.specs.inside.Feeds.{Grows, HasSentAll, turn_in}
use Rattle.gs_calendar.proofs.sending.send_all.Given as goal

abbrev pub invariant-loop-v : goal.invariant-loop-v
invariant-loop-v l = record {
  grows : Grows (net_of l.plan) (course_of l.script) l.t l.initial.waiting l.waiting;
  turns : (u : ℕ) → u < l.v → turn_in l.next u ≡ turn (net_of l.plan) (course_of l.script) u (suc l.t);
  sent : (u : ℕ) → u < l.v → HasSentAll (net_of l.plan) (course_of l.script) (suc l.t) u l.waiting;
}
