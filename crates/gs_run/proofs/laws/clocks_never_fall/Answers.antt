use Rattle.gs_run.proofs.Rising.{clocks_never_fall}
use Rattle.gs_run.proofs.laws.clocks_never_fall.Goals as goal

pub returns : goal.returns
returns c = λ net w es i j v. clocks_never_fall net w es i j v
