-- What the real clock shows.
use Rattle.std.specs.Prelude.{ℕ, Option}
use Rattle.std.specs.declared.time.Instant.{Instant}
use Rattle.gs_clock.specs.declared.monotonic.MonoClock.{MonoClock}

-- the moment from which it counts, if it has one
abbrev pub origin_of : {R : Type 0} → MonoClock R → Option Instant
origin_of clock = clock.origin

-- how often it has failed
abbrev pub times_failed : {R : Type 0} → MonoClock R → ℕ
times_failed clock = clock.faults
