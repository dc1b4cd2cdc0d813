use Rattle.std.proofs.Common.{◌≡◌, ◌-◌, false, slice_index_or, rules}
use Rattle.std.specs.Ordering.{is_lt}
use Rattle.gs_calendar.specs.Due.{key_cmp}
use Rattle.gs_seat.specs.Letters.{key_of}
use Rattle.gs_seat.proofs.Put.{gap_here}
use Rattle.gs_seat.proofs.transit.Transit.gap.Goals as goal

pub returns-else-is_lt : goal.returns-else-is_lt
returns-else-is_lt c =
    let x = c.index.result.now in
    let here : x ≡ slice_index_or c.args.self.now (c.loop-at.at - 1) x = search rules in
    let stays : is_lt (key_cmp (key_of c.args.mail.now) (key_of x)) ≡ false = search rules in
    gap_here c.args.mail.now x c.args.self.now c.loop-at.at c.requires.order c.requires.new c.loop-at.invariant.inside c.loop-at.invariant.rest here stays
