use Rattle.std.proofs.Common.{◌≡◌, ◌<◌, ◌≤◌, true, length, slice_index_or}
use Rattle.std.specs.Ordering.{is_lt}
use Rattle.gs_calendar.specs.Due.{key_cmp}
use Rattle.gs_seat.specs.Letters.{Letter, key_of}
use Rattle.gs_seat.proofs.transit.Transit.gap.Given as goal

abbrev pub invariant-loop-at : goal.invariant-loop-at
invariant-loop-at l = record {
  inside : l.at ≤ length l.self;
  rest : (d : Letter) → l.at < length l.self → is_lt (key_cmp (key_of l.mail) (key_of (slice_index_or l.self l.at d))) ≡ true;
}

abbrev pub decreases-loop-at : goal.decreases-loop-at
decreases-loop-at l = l.at
