use Rattle.std.proofs.Common.{◌∙◌}
use Rattle.gs_script.specs.inside.Kept.{is_in}
use Rattle.gs_script.proofs.Numbers.{painted_of}
use Rattle.gs_script.proofs.kept.runs_of.Goals as goal

pub returns : goal.returns
returns c = λ t. c.in_ok-runs.ensures t ∙ rw (c.deref.ensures.value, c.in_ok-chosen.ensures) (painted_of (is_in c.args.part) c.args.lines.now t)
