-- What is known of an audit that runs. These facts are for private functions and proofs.
use Rattle.std.specs.Prelude.{◌≡◌, List}
use Rattle.gs_plan.specs.Plans.{graph_of}
use Rattle.gs_plan.specs.declared.plan.Plan.{Plan}
use Rattle.gs_core.specs.declared.event.Event.{Event}
use Rattle.gs_trace.specs.declared.start.WorldStart.{WorldStart}
use Rattle.gs_run.specs.Nets.{net_of}
use Rattle.gs_audit.specs.inside.UnderWay.{IsUnderWay}
use Rattle.gs_audit.specs.Verdicts.{world_at}
use Rattle.gs_audit.specs.declared.auditing.Auditing.{Auditing}

-- of all events of an audit from this start these are left
pub record IsAuditing (p : Plan) (s : WorldStart) (all left : List Event) (a : Auditing) : Type 0 where
  pub plan : a.plan.now ≡ p
  pub world : a.world.plan ≡ p
  pub under_way : IsUnderWay (net_of p) (graph_of p) (world_at p s) all left a.world.world a.tally a.clocks.items a.fast a.index
