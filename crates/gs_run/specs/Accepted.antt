-- What every plan gives, and what every start keeps to.
use Rattle.std.specs.Prelude.{◌≡◌, ℕ, ◌*◌, ◌^◌, ◌<◌, ◌≤◌, List, length}
use Rattle.gs_units.specs.Rates.{r_of, q_of}
use Rattle.gs_topo.specs.Walks.{IsWalk, IsLeast}
use Rattle.gs_plan.specs.declared.plan.Plan.{Plan}
use Rattle.gs_run.specs.Net.{Net, Adjacent, spread_of, delta_of}
use Rattle.gs_run.specs.Nets.{net_of}

-- the facts of an accepted plan that the laws of runs rest on
pub record AreNumbers (net : Net) : Type 0 where
  pub some : 1 ≤ net.nodes
  pub tick : 1 ≤ net.tick
  pub every : 1 ≤ net.every
  pub both_ways : (v w : ℕ) → Adjacent net v w → Adjacent net w v
  pub same_delay_min : (v w : ℕ) → net.delay_min v w ≡ net.delay_min w v
  pub same_delay_max : (v w : ℕ) → net.delay_max v w ≡ net.delay_max w v
  pub same_kappa : (v w : ℕ) → net.kappa v w ≡ net.kappa w v
  pub delays : (v w : ℕ) → Adjacent net v w → net.delay_min v w ≤ net.delay_max v w
  pub in_age : (v w : ℕ) → Adjacent net v w → net.delay_max v w ≤ net.age
  pub near : (v w : ℕ) → Adjacent net v w → net.delay_max v w ≤ 2 ^ 16
  pub margin : (v w : ℕ) → Adjacent net v w → 2 * delta_of net v w < net.kappa v w
  pub strong : 2 * r_of net.rate ≤ q_of net.rate
  pub widest : (v w : ℕ) → Adjacent net v w → spread_of net v w ≤ net.widest
  pub weights : (v w : ℕ) → v < net.nodes → w < net.nodes
      → IsLeast (Adjacent net) net.nodes net.kappa v w (net.weight v w)
  pub diameter : (v w : ℕ) → v < net.nodes → w < net.nodes
      → (xs : List ℕ) × IsWalk (Adjacent net) net.nodes v xs w × (length xs ≤ net.diameter)

-- every plan has them
abbrev pub PlansHaveNumbers : Type 0
PlansHaveNumbers = (p : Plan) → AreNumbers (net_of p)

-- the readings and the clocks of a start are far from the end of all clocks
pub record IsSmall (net : Net) (hw l0 : ℕ → ℕ) : Type 0 where
  pub clocks : (v : ℕ) → v < net.nodes → l0 v ≤ 2 ^ 61
  pub readings : (v : ℕ) → v < net.nodes → hw v ≤ 2 ^ 61
