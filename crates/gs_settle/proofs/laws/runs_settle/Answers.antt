use Rattle.std.proofs.Common.{slice_index}
use Rattle.gs_run.specs.Nets.{net_of}
use Rattle.gs_run.proofs.PlanNumbers.{plan_has_numbers}
use Rattle.gs_settle.proofs.Holding.{run_settles}
use Rattle.gs_settle.proofs.laws.runs_settle.Goals as goal

pub returns : goal.returns
returns c = λ p hw l0s gamma es near allowed s late.
    run_settles (net_of p) (slice_index hw) (slice_index l0s) gamma es (plan_has_numbers p) near allowed s late
