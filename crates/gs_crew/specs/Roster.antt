-- A crew for tests, as contracts see it.
use Rattle.std.specs.Prelude.{ℕ, List}
use Rattle.gs_io.specs.Causes.{counted}

-- the numbers of the starts that are to be refused, how many starts there were, and how many of them were refused
pub record Roster : Type 0 where
  pub fails : List ℕ
  pub starts : ℕ
  pub faults : ℕ

-- after a start that may be tried
abbrev pub after_admission : Roster → Roster
after_admission crew = record crew { starts = counted crew.starts }

-- after a start that was refused
abbrev pub after_refusal : Roster → Roster
after_refusal crew = record crew { starts = counted crew.starts; faults = counted crew.faults }
