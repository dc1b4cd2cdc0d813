-- The numbers of a plan over its graph: the greatest of its edges' numbers, and the bounds of the levels.
use Rattle.std.specs.Prelude.{ℕ, ◌+◌, ◌-◌, ◌*◌, max, fold, map}
use Rattle.gs_topo.specs.Graph.{Graph}
use Rattle.gs_topo.specs.Walks.{diameter_of}
use Rattle.gs_planfile.specs.declared.text.PlanText.{PlanText}
use Rattle.gs_plan.specs.declared.edge.EdgeGiven.{EdgeGiven}
use Rattle.gs_plan.specs.Edges.{own_given, edges_given}
use Rattle.gs_plan.specs.Levels.{best_of}
use Rattle.gs_units.specs.Rates.{bound_at, lambda_at, skew_at}
use Rattle.gs_plan.specs.Numbers.{g_in, iota_in, kappa_in, r_in, sigma_in, spread_in}

-- the greatest of the plan's own value and those of all edges
abbrev pub greatest_in : (EdgeGiven → ℕ) → PlanText → Graph → ℕ
greatest_in f t g = fold max (f (own_given t)) (map f (edges_given t g))

-- jmax, kmax and Umax
abbrev pub greatest_spread_in : PlanText → Graph → ℕ
greatest_spread_in t g = greatest_in (spread_in t) t g

abbrev pub greatest_kappa_in : PlanText → Graph → ℕ
greatest_kappa_in t g = greatest_in (kappa_in t) t g

abbrev pub greatest_delay_in : PlanText → Graph → ℕ
greatest_delay_in t g = greatest_in (λ e. e.delay_max) t g

-- how far a maximum may lag behind the greatest clock
abbrev pub lambda_in : PlanText → Graph → ℕ
lambda_in t g = lambda_at (diameter_of g) t.hi (g_in t) t.age (greatest_spread_in t g)

-- G(0): the bound of the difference of any two clocks
abbrev pub global_in : PlanText → Graph → ℕ
global_in t g = skew_at (lambda_in t g) (iota_in t) (r_in t) t.tick

-- G(s): the bound of level s
abbrev pub level_in : PlanText → Graph → ℕ → ℕ
level_in t g s = bound_at (global_in t g) (sigma_in t) (r_in t) s

-- the bound of level s for the difference of the ends of an edge of this kappa
abbrev pub skew_in : PlanText → Graph → ℕ → ℕ → ℕ
skew_in t g kappa s = 2 * s * kappa + level_in t g s

-- local(s): that of any edge
abbrev pub local_in : PlanText → Graph → ℕ → ℕ
local_in t g s = skew_in t g (greatest_kappa_in t g) s

-- the least local(s) of the plan's levels, with the first s that has it
abbrev pub best_in : PlanText → Graph → ℕ × ℕ
best_in t g = best_of (local_in t g) t.levels

-- best(e): the same for one edge of this kappa
abbrev pub best_edge_in : PlanText → Graph → ℕ → ℕ × ℕ
best_edge_in t g kappa = best_of (skew_in t g kappa) t.levels
