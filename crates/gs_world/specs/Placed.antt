-- A world together with its plan.
use Rattle.gs_plan.specs.declared.plan.Plan.{Plan}
use Rattle.gs_run.specs.World.{World}

pub record Placed : Type 0 where
  pub plan : Plan
  pub world : World
