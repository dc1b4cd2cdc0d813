use Rattle.std.proofs.Common.{◌≡◌, ℕ, ◌<◌, length}
use Rattle.gs_calendar.specs.Calendar.{first_turn}
use Rattle.gs_calendar.specs.inside.Feeds.{turn_in}
use Rattle.gs_calendar.proofs.feed.first_turns.Given as goal

abbrev pub invariant-loop : goal.invariant-loop
invariant-loop l = record {
  count : length l.turns.items ≡ l.counter;
  first : (v : ℕ) → v < l.counter → turn_in l.turns.items v ≡ first_turn;
}
