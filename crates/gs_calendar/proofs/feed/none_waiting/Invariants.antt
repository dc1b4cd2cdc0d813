use Rattle.std.proofs.Common.{◌≡◌, ℕ, ◌<◌, [], length}
use Rattle.gs_calendar.specs.inside.Feeds.{waiting}
use Rattle.gs_calendar.proofs.feed.none_waiting.Given as goal

abbrev pub invariant-loop : goal.invariant-loop
invariant-loop l = record {
  count : length l.lists.items ≡ l.counter;
  none : (v : ℕ) → v < l.counter → waiting l.lists.items v ≡ [];
}
