-- What a script says of nodes and beacons.
use Rattle.std.specs.Prelude.{ℕ, ◌+◌, ◌*◌, ◌≤◌, max, length, unwrap_or, List, Bool, false}
use Rattle.gs_topo.specs.Graph.{Adjacent}
use Rattle.gs_planfile.specs.declared.text.PlanText.{PlanText}
use Rattle.gs_plan.specs.Edges.{edge_given}
use Rattle.gs_plan.specs.Shapes.{graph_of_text}
use Rattle.gs_script.specs.declared.line.Line.{Line}
use Rattle.gs_script.specs.Lines.{delay_said, gap_said, inc_said, last_said, loss_said}

-- what contracts see of a script: the text of the plan that it was read for, the count of its quanta,
-- and its records in order
pub record Said : Type 0 where
  pub text : PlanText
  pub quanta : ℕ
  pub lines : List Line

-- a beacon takes at least one quantum
abbrev pub least_delay : ℕ → ℕ
least_delay delay_min = max delay_min 1

-- what node v's hardware clock advances by in quantum t
abbrev pub inc_of : Said → ℕ → ℕ → ℕ
inc_of s v t = unwrap_or (last_said (inc_said v) t s.lines) s.text.lo

-- the gap between ticks that is asked of node v in quantum t
abbrev pub gap_of : Said → ℕ → ℕ → ℕ
gap_of s v t = unwrap_or (last_said (gap_said v) t s.lines) s.text.tick

-- the delay of a beacon that v sends to w in quantum t
abbrev pub delay_of : Said → ℕ → ℕ → ℕ → ℕ
delay_of s v w t = unwrap_or (last_said (delay_said v w) t s.lines) (least_delay (edge_given s.text (v, w)).delay_min)

-- whether it is lost
abbrev pub is_lost : Said → ℕ → ℕ → ℕ → Bool
is_lost s v w t = unwrap_or (last_said (loss_said v w) t s.lines) false

-- what holds of every script: its values are within the bounds of its plan, and its work is within the limits
pub record IsScript (s : Said) : Type 0 where
  pub inc_low : (v t : ℕ) → s.text.lo ≤ inc_of s v t
  pub inc_high : (v t : ℕ) → inc_of s v t ≤ s.text.hi
  pub gap_low : (v t : ℕ) → 1 ≤ gap_of s v t
  pub gap_high : (v t : ℕ) → gap_of s v t ≤ s.text.tick
  pub delay_low : (v w t : ℕ) → Adjacent (graph_of_text s.text) v w
      → least_delay (edge_given s.text (v, w)).delay_min ≤ delay_of s v w t
  pub delay_high : (v w t : ℕ) → Adjacent (graph_of_text s.text) v w
      → delay_of s v w t ≤ (edge_given s.text (v, w)).delay_max
  pub quanta : s.quanta ≤ 1048576
  pub work : s.quanta * ((graph_of_text s.text).nodes + length (graph_of_text s.text).edges) ≤ 67108864
