-- Starts that a trace can tell.
use Rattle.std.specs.Prelude.{◌≡◌, ℕ, ◌^◌, ◌<◌, ◌≤◌, All, length}
use Rattle.gs_trace.specs.declared.start.WorldStart.{WorldStart}
use Rattle.gs_trace.specs.declared.start.NodeStart.{NodeStart}

-- a start of so many nodes, far from the end of all clocks
pub record FitsWorld (nodes : ℕ) (s : WorldStart) : Type 0 where
  pub count : length s.hw ≡ nodes
  pub clock : s.l0 ≤ 2 ^ 61
  pub readings : All (λ reading. reading ≤ 2 ^ 61) s.hw

-- a start of a node before the end of all clocks
pub record FitsNode (s : NodeStart) : Type 0 where
  pub clock : s.l0 < 2 ^ 62
  pub reading : s.hw < 2 ^ 62
