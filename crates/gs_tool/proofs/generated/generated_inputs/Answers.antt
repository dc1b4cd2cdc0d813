use Rattle.std.proofs.Common.{rules, ◌≡◌}
use Rattle.gs_gen.specs.Texts.{plan_text, script_text}
use Rattle.gs_tool.proofs.generated.generated_inputs.Goals as goal

pub returns-clause-err : goal.returns-clause-err
returns-clause-err c =
    let plan_is : c.in_ok-to_vec.field-0.items ≡ plan_text c.args.size = search rules in
    let script_is : c.in_ok-to_vec-2.field-0.items ≡ script_text c.args.number c.args.size = search rules in
    rw (← plan_is, ← script_is) c.accepted.ensures.err
