use Rattle.std.proofs.Common.{◌≡◌, ℕ}
use Rattle.gs_run.specs.Net.{Net}
use Rattle.gs_calendar.specs.Course.{Course}
use Rattle.gs_calendar.specs.inside.Coming.{AreAhead}
use Rattle.gs_calendar.proofs.Beginning.{incs_below}
use Rattle.gs_calendar.proofs.ahead.incs_of.Given as goal

abbrev pub invariant-loop-v : goal.invariant-loop-v
invariant-loop-v l = (net : Net) (c : Course) (t : ℕ) → AreAhead net c t l.ahead → l.incs.items ≡ incs_below c t l.v
