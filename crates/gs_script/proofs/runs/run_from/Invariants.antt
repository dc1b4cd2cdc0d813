use Rattle.gs_script.specs.inside.Runs.{AreBehind}
use Rattle.gs_script.proofs.runs.run_from.Given as goal

abbrev pub invariant-loop-i : goal.invariant-loop-i
invariant-loop-i l = AreBehind l.t l.items l.i
