-- What the fields of a node that sleeps stand for.
use Rattle.std.specs.Prelude.{◌≡◌, ℕ, suc, ◌+◌, ◌-◌, ◌*◌, ◌≤◌, []}
use Rattle.gs_run.specs.Net.{Net, params_of}
use Rattle.gs_run.specs.World.{Member}
use Rattle.gs_script.specs.Lasts.{Lasts}
use Rattle.gs_calendar.specs.Course.{Course}
use Rattle.gs_seat.specs.Worlds.{part_at}
use Rattle.gs_seat.specs.declared.sleeper.Sleeper.{Sleeper}

-- the part of a world that it has at this reading
abbrev pub part_of : Sleeper → ℕ → Member
part_of s reading = record { reading = reading; node = s.core.node; ticked_at = s.ticked; sent = []; heard = s.heard.items }

-- the reading after quantum t, if the clock adds the same in each since the node woke up
abbrev pub reading_at : Sleeper → ℕ → ℕ
reading_at s t = s.reading + s.inc.value * (t - s.at)

-- This is node v at the end of quantum t, and what its clock adds and which gap is asked for in the next quanta.
pub record IsAsleep (net : Net) (c : Course) (v t : ℕ) (s : Sleeper) : Type 0 where
  pub told : s.core.params ≡ params_of net v
  pub is : part_of s (reading_at s t) ≡ part_at net c t v
  pub at : s.at ≤ t
  pub inc : Lasts (c.inc v) (suc t) s.inc.until s.inc.value
  pub gap : Lasts (c.gap v) (suc t) s.gap.until s.gap.value

-- what it knows ahead stays as it was
pub record IsSetAs (old new : Sleeper) : Type 0 where
  pub told : new.core.params ≡ old.core.params
  pub reading : new.reading ≡ old.reading
  pub at : new.at ≡ old.at
  pub inc : new.inc ≡ old.inc
  pub gap : new.gap ≡ old.gap
