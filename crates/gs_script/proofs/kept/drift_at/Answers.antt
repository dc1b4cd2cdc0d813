use Rattle.gs_script.specs.inside.Runs.{value_at}
use Rattle.gs_script.proofs.Numbers.{drift_lasts}
use Rattle.gs_script.proofs.kept.drift_at.Goals as goal

pub returns : goal.returns
returns c = λ lines v a b.
    drift_lasts lines v c.args.star.now c.args.own.now c.args.t c.greater.result.until c.greater.result.value a b
    (c.greater.ensures (value_at c.args.star.now.drifts) (value_at c.args.own.now.drifts) c.args.t c.at.ensures c.at-2.ensures)
