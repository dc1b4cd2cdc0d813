-- For private functions and proofs: what a run of a node goes by.
use Rattle.std.specs.Prelude.{◌≡◌, ℕ, map}
use Rattle.gs_topo.specs.Graph.{neighbours_of}
use Rattle.gs_units.specs.Params.{AreValid}
use Rattle.gs_plan.specs.Plans.{graph_of, text_of}
use Rattle.gs_plan.specs.declared.plan.Plan.{Plan}
use Rattle.gs_node_run.specs.Addresses.{answers_at, receives_at, routes_of}
use Rattle.gs_node_run.specs.Nodes.{params_of}
use Rattle.gs_node_run.specs.declared.reading.Job.{Job}

-- a job is that of node v of the plan, for so many ticks
pub record IsJobOf (plan : Plan) (v ticks : ℕ) (job : Job) : Type 0 where
  pub params : job.params ≡ params_of plan v
  pub valid : AreValid job.params
  pub inlets : job.addresses.inlets.items ≡ map (receives_at (text_of plan) (graph_of plan) v) (neighbours_of (graph_of plan) v)
  pub routes : job.addresses.routes.items ≡ routes_of (text_of plan) (graph_of plan) v
  pub door : job.addresses.door ≡ answers_at (text_of plan) (graph_of plan) v
  pub turns : job.ticks ≡ ticks
