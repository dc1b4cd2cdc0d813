-- What the public calls of a plan speak of.
use Rattle.std.specs.Prelude.{◌≡◌, ℕ, ◌<◌, List, Option, None}
use Rattle.gs_units.specs.Rates.{HasNumbers}
use Rattle.gs_units.specs.declared.rate.Rate.{Rate}
use Rattle.gs_units.specs.declared.params.NodeParams.{NodeParams}
use Rattle.gs_topo.specs.Graph.{Graph, Adjacent}
use Rattle.gs_topo.specs.Walks.{IsLeast, IsTopology}
use Rattle.gs_topo.specs.Weights.{Weighs}
use Rattle.gs_planfile.specs.declared.text.PlanText.{PlanText}
use Rattle.gs_plan.specs.declared.edge.EdgeNumbers.{EdgeNumbers}
use Rattle.gs_plan.specs.declared.plan.Plan.{Plan}
use Rattle.gs_plan.specs.Accepted.{IsAccepted}
use Rattle.gs_plan.specs.Bounds.{best_edge_in, best_in, global_in, greatest_kappa_in, lambda_in, level_in, local_in, skew_in}
use Rattle.gs_plan.specs.Edges.{own_given}
use Rattle.gs_plan.specs.Faults.{plan_fault}
use Rattle.gs_plan.specs.Nodes.{params_in}
use Rattle.gs_plan.specs.Numbers.{comp_in, delta_in, jump_in, kappa_between, kappa_in, numbers_between, numbers_of}
use Rattle.gs_plan.specs.Shapes.{graph_of_text}
use Rattle.gs_plan.specs.Weights.{weight_in}

-- the text that a plan was made of
abbrev pub text_of : Plan → PlanText
text_of p = p.text

-- its graph
abbrev pub graph_of : Plan → Graph
graph_of p = p.topo

-- its rate
abbrev pub rate_of : Plan → Rate
rate_of p = p.rate

-- the numbers of an edge without a span
abbrev pub own_kappa_of : Plan → ℕ
own_kappa_of p = kappa_in (text_of p) (own_given (text_of p))

abbrev pub own_delta_of : Plan → ℕ
own_delta_of p = delta_in (text_of p) (own_given (text_of p))

abbrev pub own_comp_of : Plan → ℕ
own_comp_of p = comp_in (text_of p) (own_given (text_of p))

abbrev pub own_jump_of : Plan → ℕ
own_jump_of p = jump_in (text_of p) (own_given (text_of p))

-- the numbers of all edges, in their order, and those of the edge between two nodes
abbrev pub edges_of : Plan → List EdgeNumbers
edges_of p = numbers_of (text_of p) (graph_of p)

abbrev pub edge_of : Plan → ℕ → ℕ → Option EdgeNumbers
edge_of p v w = numbers_between (text_of p) (graph_of p) v w

-- the skew that one level allows between two neighbours, its sum over the least walk, and the greatest of all edges
abbrev pub kappa_of : Plan → ℕ → ℕ → ℕ
kappa_of p = kappa_between (text_of p)

abbrev pub weight_of : Plan → ℕ → ℕ → ℕ
weight_of p = weight_in (text_of p) (graph_of p)

abbrev pub greatest_kappa_of : Plan → ℕ
greatest_kappa_of p = greatest_kappa_in (text_of p) (graph_of p)

-- lambda: how far a maximum may lag behind the greatest clock
abbrev pub lag_of : Plan → ℕ
lag_of p = lambda_in (text_of p) (graph_of p)

-- G(0) and G(s): the bound of any two clocks, and of level s
abbrev pub global_of : Plan → ℕ
global_of p = global_in (text_of p) (graph_of p)

abbrev pub bound_of : Plan → ℕ → ℕ
bound_of p s = level_in (text_of p) (graph_of p) s

-- the bound of level s for the ends of an edge of this kappa, and of any edge
abbrev pub edge_bound_of : Plan → ℕ → ℕ → ℕ
edge_bound_of p kappa = skew_in (text_of p) (graph_of p) kappa

abbrev pub local_of : Plan → ℕ → ℕ
local_of p s = local_in (text_of p) (graph_of p) s

-- the least of these bounds over the plan's levels, with its first level
abbrev pub best_edge_of : Plan → ℕ → ℕ × ℕ
best_edge_of p kappa = best_edge_in (text_of p) (graph_of p) kappa

abbrev pub best_local_of : Plan → ℕ × ℕ
best_local_of p = best_in (text_of p) (graph_of p)

-- what node v is told before it runs
abbrev pub params_for : Plan → ℕ → NodeParams
params_for p v = params_in (text_of p) (graph_of p) (rate_of p) v

-- what holds of every plan, whatever is kept of it
pub record IsPlan (p : Plan) : Type 0 where
  pub no_fault : plan_fault (text_of p) ≡ None
  pub rate : HasNumbers (text_of p).lo (text_of p).hi (text_of p).mu (rate_of p)
  pub graph : graph_of p ≡ graph_of_text (text_of p)
  pub topology : IsTopology (graph_of p)
  pub accepted : IsAccepted (text_of p) (graph_of p)

-- every value of the type is an accepted plan
abbrev pub PlansAreAccepted : Type 0
PlansAreAccepted = (p : Plan) → IsPlan p

-- in every plan the weight is the least sum over all walks
abbrev pub WeightsAreLeastSums : Type 0
WeightsAreLeastSums = (p : Plan) (v w : ℕ) → v < (graph_of p).nodes → w < (graph_of p).nodes
    → IsLeast (Adjacent (graph_of p)) (graph_of p).nodes (kappa_of p) v w (weight_of p v w)

-- and fits the kappas of the edges as the laws of the levels ask
abbrev pub WeightsFitKappas : Type 0
WeightsFitKappas = (p : Plan) → Weighs (graph_of p).nodes (Adjacent (graph_of p)) (kappa_of p) (weight_of p)
