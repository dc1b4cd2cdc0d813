use Rattle.std.proofs.Common.{◌≡◌, ℕ, [], ◌<◌, ◌≤◌}
use Rattle.gs_calendar.specs.Due.{due_by}
use Rattle.gs_calendar.specs.inside.Feeds.{waiting}
use Rattle.gs_calendar.proofs.round.take_due.Given as goal

abbrev pub invariant-loop-v : goal.invariant-loop-v
invariant-loop-v l = record {
  same : l.waiting ≡ l.initial.waiting;
  none : (u : ℕ) → l.to ≤ u → u < l.v → due_by l.t (waiting l.waiting u) ≡ [];
}
