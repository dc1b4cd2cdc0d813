use Rattle.gs_inputs.specs.SourceSeen.{source_in}
use Rattle.gs_inputs.proofs.Reading.{script_stops}
use Rattle.gs_inputs.proofs.inputs.accepted.Goals as goal

pub returns-in_err-script-clause-err : goal.returns-in_err-script-clause-err
returns-in_err-script-clause-err c =
    script_stops (source_in c.args.plan.now) (source_in c.args.script.now) c.in_ok-plan.plan
    c.from_residual-in_err-script.result c.in_err-script.field-0.0 c.from_residual-in_err-script.ensures.1
    c.in_ok-plan.ensures.ok c.in_err-script.ensures.err
