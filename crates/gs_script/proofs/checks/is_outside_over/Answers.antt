use Rattle.std.proofs.Common.{◌∙◌, sym}
use Rattle.gs_plan.specs.Plans.{text_of}
use Rattle.gs_script.proofs.Edges.{outside-met}
use Rattle.gs_script.proofs.checks.is_outside_over.Goals as goal

pub returns-then-is_any_met : goal.returns-then-is_any_met
returns-then-is_any_met c =
    let met = sym c.is_any_met.ensures ∙ c.if-is_any_met.true in
    c.is_any_bad.ensures ∙ outside-met (text_of c.args.plan.now) c.args.v c.args.w c.args.delay c.args.links.now c.requires met
