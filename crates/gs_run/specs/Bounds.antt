-- The bounds that a world keeps.
use Rattle.std.specs.Prelude.{ℕ, ◌+◌, ◌*◌, ◌<◌, ◌≤◌}
use Rattle.gs_skew.specs.Skews.{global_skew, potential, skew_between}
use Rattle.gs_run.specs.Net.{Net, Adjacent, lambda_of, skew_of, level_of}
use Rattle.gs_run.specs.World.{World, clock_in, clocks_in, maximum_in}

-- All clocks stay within G(0); at every level s the potential stays within G(s), and the ends of each edge e within
-- 2*s*kappa(e) + G(s).
pub record Bounded (net : Net) (w : World) : Type 0 where
  pub global : global_skew (clocks_in net w) ≤ skew_of net
  pub levels : (s : ℕ) → potential net.weight (clocks_in net w) s ≤ level_of net s
  pub edges : (s v x : ℕ) → v < net.nodes → x < net.nodes → Adjacent net v x
      → skew_between (clocks_in net w) v x ≤ 2 * s * net.kappa v x + level_of net s

-- What a node knows of the greatest clock: its maximum is at most some clock, and behind no clock by more than lambda.
pub record AreMaxima (net : Net) (w : World) : Type 0 where
  pub never_ahead : (v : ℕ) → v < net.nodes → (x : ℕ) × (x < net.nodes) × (maximum_in net w v ≤ clock_in net w x)
  pub lags : (v x : ℕ) → v < net.nodes → x < net.nodes → clock_in net w x ≤ maximum_in net w v + lambda_of net
