use Rattle.gs_plan.specs.Plans.{text_of}
use Rattle.gs_script.proofs.Within.{plan_bounds, script_within}
use Rattle.gs_script.proofs.script.Script.of.Goals as goal

pub invariant_of-result : goal.invariant_of-result
invariant_of-result c =
    let p = c.args.plan.now in
    let script = script_within (text_of p) c.args.quanta c.args.lines.items (plan_bounds p) c.requires.fits c.requires.small in
    rw (c.in_ok-text.ensures, c.text.ensures) (record {
      script = script;
      star = rw (← c.deref.ensures.value) c.in_ok-star.ensures;
      nodes = rw (← c.deref-2.ensures.value) c.in_ok-nodes.ensures;
    })

pub returns-clause-within : goal.returns-clause-within
returns-clause-within c =
    let p = c.args.plan.now in
    let script = script_within (text_of p) c.args.quanta c.args.lines.items (plan_bounds p) c.requires.fits c.requires.small in
    rw (c.in_ok-text.ensures, c.text.ensures) script
