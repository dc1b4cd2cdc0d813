-- How far the clocks of nodes near each other may be apart, and the guard that this asks for.
use Rattle.std.specs.Prelude.{ℕ, ◌*◌}
use Rattle.std.specs.Int.{div_ceil}
use Rattle.gs_plan.specs.Plans.{best_edge_of, edge_bound_of, greatest_kappa_of}
use Rattle.gs_plan.specs.declared.plan.Plan.{Plan}

-- so many steps at the greatest kappa
abbrev pub kappas_in : Plan → ℕ → ℕ
kappas_in p reach = reach * greatest_kappa_of p

-- the bound of level s for two nodes that are at most so many steps apart
abbrev pub bound_over : Plan → ℕ → ℕ → ℕ
bound_over p reach s = edge_bound_of p (kappas_in p reach) s

-- near(R): the least of these over the plan's levels
abbrev pub near_in : Plan → ℕ → ℕ
near_in p reach = (best_edge_of p (kappas_in p reach)).1

-- half of it, rounded up
abbrev pub guard_in : Plan → ℕ → ℕ
guard_in p reach = div_ceil (near_in p reach) 2
