use Rattle.std.proofs.Common.{◌≡◌, ◌+◌, length}
use Rattle.gs_seat.specs.Alone.{CanHear, hears}
use Rattle.gs_seat.specs.Letters.{letters_after, letters_by}
use Rattle.gs_seat.specs.Sleepers.{IsSetAs, part_of}
use Rattle.gs_seat.proofs.sleeper.Sleeper.hear_due.Given as goal

abbrev pub invariant-loop : goal.invariant-loop
invariant-loop l = record {
  count : length l.waiting + l.counter ≡ l.end;
  rest : letters_after l.t l.waiting ≡ letters_after l.t l.fn.waiting;
  part : hears l.fn.self.core.params (letters_by l.t l.waiting) (part_of l.self l.reading)
      ≡ hears l.fn.self.core.params (letters_by l.t l.fn.waiting) (part_of l.fn.self l.reading);
  can : CanHear l.fn.self.core.params (letters_by l.t l.waiting) (part_of l.self l.reading);
  same : IsSetAs l.fn.self l.self;
}
