use Rattle.std.proofs.Common.{◌≡◌}
use Rattle.gs_calendar.specs.inside.Feeds.{ticks_left}
use Rattle.gs_calendar.proofs.round.next_tick.Given as goal

abbrev pub invariant-loop-v : goal.invariant-loop-v
invariant-loop-v l = ticks_left l.t l.turns l.v ≡ ticks_left l.t l.turns l.at
