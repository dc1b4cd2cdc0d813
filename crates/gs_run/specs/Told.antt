-- What a plan tells its nodes and prints, in the words of its net.
use Rattle.std.specs.Prelude.{◌≡◌, ℕ}
use Rattle.gs_plan.specs.Bounds.{global_in, lambda_in, level_in}
use Rattle.gs_plan.specs.Edges.{edge_given}
use Rattle.gs_plan.specs.Nodes.{params_in}
use Rattle.gs_plan.specs.Numbers.{delta_in, kappa_between}
use Rattle.gs_plan.specs.Plans.{graph_of, rate_of, text_of}
use Rattle.gs_plan.specs.declared.plan.Plan.{Plan}
use Rattle.gs_run.specs.Net.{delta_of, lambda_of, level_of, params_of, skew_of}
use Rattle.gs_run.specs.Nets.{net_of}

-- every node is told what the net says of it
abbrev pub NodesAreTold : Type 0
NodesAreTold = (p : Plan) (v : ℕ) → params_of (net_of p) v ≡ params_in (text_of p) (graph_of p) (rate_of p) v

-- the bounds that the laws of runs speak of are the numbers of the plan, which its calls answer and the planner prints
pub record HasPlanBounds (p : Plan) : Type 0 where
  pub global : skew_of (net_of p) ≡ global_in (text_of p) (graph_of p)
  pub levels : (s : ℕ) → level_of (net_of p) s ≡ level_in (text_of p) (graph_of p) s
  pub lag : lambda_of (net_of p) ≡ lambda_in (text_of p) (graph_of p)
  pub budget : (v w : ℕ) → delta_of (net_of p) v w ≡ delta_in (text_of p) (edge_given (text_of p) (v, w))
  pub kappa : (v w : ℕ) → (net_of p).kappa v w ≡ kappa_between (text_of p) v w

-- in every plan
abbrev pub BoundsAreThePlans : Type 0
BoundsAreThePlans = (p : Plan) → HasPlanBounds p
