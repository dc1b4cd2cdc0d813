use Rattle.std.proofs.Common.{◌≡◌, arith, rules}
use Rattle.gs_seat.specs.Seats.{wake_of}
use Rattle.gs_seat.proofs.Reading.{sleep_may}
use Rattle.gs_seat.proofs.seat.Seat.wake.Goals as goal

pub returns-clause-sleeps : goal.returns-clause-sleeps
returns-clause-sleeps c = λ p s v m t plays window less is.
    let value : c.min-2.result ≡ wake_of c.args.self.now = search rules in
    sleep_may p s v m t c.args.self.now plays window (omega (arith, less, value)) is
