-- What acceptance gives. A text is accepted where it has no fault.
use Rattle.std.specs.Prelude.{◌≡◌, ◌+◌, ◌*◌, ◌<◌, ◌≤◌, ◌^◌, All, length, None}
use Rattle.gs_topo.specs.Graph.{Graph}
use Rattle.gs_planfile.specs.declared.text.PlanText.{PlanText}
use Rattle.gs_plan.specs.declared.edge.EdgeGiven.{EdgeGiven}
use Rattle.gs_plan.specs.Edges.{edges_given, own_given}
use Rattle.gs_plan.specs.Numbers.{kappa_in, least_kappa_in, q_in, r_in}
use Rattle.gs_plan.specs.Bounds.{global_in, greatest_kappa_in}
use Rattle.gs_plan.specs.Faults.{beacon_bound, fault_over}

-- the delays of an edge are in order and in range, and its kappa is not too low for them
pub record IsFine (t : PlanText) (e : EdgeGiven) : Type 0 where
  pub delays : e.delay_min ≤ e.delay_max
  pub some : 1 ≤ e.delay_max
  pub near : e.delay_max ≤ 65536
  pub margin : least_kappa_in t e ≤ kappa_in t e

-- what holds of a text without a fault over its graph
pub record IsAccepted (t : PlanText) (g : Graph) : Type 0 where
  pub tick : 1 ≤ t.tick
  pub tick_most : t.tick ≤ 65536
  pub every : 1 ≤ t.every
  pub every_most : t.every ≤ 1024
  pub losses : t.losses ≤ 1024
  pub age : beacon_bound t g ≤ t.age
  pub some_level : 1 ≤ t.levels
  pub few_levels : t.levels ≤ 32
  pub first_port : 1024 ≤ t.port
  pub ports : t.port + 2 * length g.edges + g.nodes ≤ 65536
  pub strong : 2 * r_in t ≤ q_in t
  pub own : IsFine t (own_given t)
  pub edges : All (IsFine t) (edges_given t g)
  pub in_age : All (λ e. e.delay_max ≤ t.age) (edges_given t g)
  pub fits : 2 * t.levels * greatest_kappa_in t g + global_in t g < 2 ^ 62

-- of every text and graph
abbrev pub AreAccepted : Type 0
AreAccepted = (t : PlanText) (g : Graph) → fault_over t g ≡ None → IsAccepted t g
