-- How a plan is made and kept: for its private functions alone.
use Rattle.std.specs.Prelude.{◌≡◌, ℕ, ◌*◌, ◌<◌, ◌≤◌, ◌^◌, List, Option, map}
use Rattle.gs_topo.specs.Graph.{Graph}
use Rattle.gs_topo.specs.Weights.{Lengths}
use Rattle.gs_planfile.specs.declared.text.EdgeSpan.{EdgeSpan}
use Rattle.gs_planfile.specs.declared.text.PlanText.{PlanText}
use Rattle.gs_plan.specs.declared.edge.EdgeNumbers.{EdgeNumbers}
use Rattle.gs_plan.specs.declared.edge.EdgeGiven.{EdgeGiven}
use Rattle.gs_plan.specs.declared.levels.Levels.{Levels}
use Rattle.gs_plan.specs.Edges.{own_given, span_between}
use Rattle.gs_plan.specs.Numbers.{comp_in, delta_in, iota_in, jump_in, kappa_in, least_kappa_in, numbers_of, r_in, sigma_in}
use Rattle.gs_plan.specs.Bounds.{global_in, greatest_kappa_in, lambda_in}

-- the span of each edge, in the order of the edges
abbrev pub edge_spans : List EdgeSpan → Graph → List (Option EdgeSpan)
edge_spans spans g = map (λ e. span_between spans e.0 e.1) g.edges

-- the numbers of an edge are in order, and words of 64 bits hold them
pub record AreWords (t : PlanText) (e : EdgeGiven) : Type 0 where
  pub low : least_kappa_in t e ≤ kappa_in t e
  pub high : kappa_in t e < 2 ^ 62

-- the numbers of the plan's own delays and kappa
pub record AreOwn (t : PlanText) (own : EdgeNumbers) : Type 0 where
  pub kappa : own.kappa ≡ kappa_in t (own_given t)
  pub delta : own.delta ≡ delta_in t (own_given t)
  pub comp : own.comp ≡ comp_in t (own_given t)
  pub jump : own.jump ≡ jump_in t (own_given t)

-- the edges of a graph with the kappa of each
abbrev pub lengths_in : PlanText → Graph → Lengths
lengths_in t g = record { graph = g; lengths = map (λ n. n.kappa) (numbers_of t g) }

-- the numbers of a plan over its graph
pub record AreGreatest (t : PlanText) (g : Graph) (kmax lag lead : ℕ) : Type 0 where
  pub kappa : kmax ≡ greatest_kappa_in t g
  pub lambda : lag ≡ lambda_in t g
  pub iota : lead ≡ iota_in t
  pub fits : 2 * t.levels * kmax < 2 ^ 62

-- the numbers of the levels
pub record AreLevels (t : PlanText) (g : Graph) (levels : Levels) : Type 0 where
  pub first : levels.first ≡ global_in t g
  pub sigma : levels.sigma ≡ sigma_in t
  pub r : levels.r ≡ r_in t
  pub last : levels.last ≡ t.levels
