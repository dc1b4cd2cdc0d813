-- What a script says of nodes and beacons, as functions.
use Rattle.std.specs.Prelude.{ℕ, Bool}
use Rattle.gs_script.specs.Script.{Said, inc_of, gap_of, delay_of, is_lost}

-- The count of quanta, and in quantum t: what the hardware clock of node v adds, the gap between two ticks that is
-- asked of node v, and the delay in quanta of a beacon that one node sends to another then, and whether it is lost.
pub record Course : Type 0 where
  pub quanta : ℕ
  pub inc : ℕ → ℕ → ℕ
  pub gap : ℕ → ℕ → ℕ
  pub delay : ℕ → ℕ → ℕ → ℕ
  pub lost : ℕ → ℕ → ℕ → Bool

-- what a script says
abbrev pub course_of : Said → Course
course_of s = record { quanta = s.quanta; inc = inc_of s; gap = gap_of s; delay = delay_of s; lost = is_lost s }
