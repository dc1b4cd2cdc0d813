use Rattle.std.proofs.Common.{◌≡◌, ◌∙◌, ◌<◌, ◌≤◌, ◌^◌, arith, inl, inr, sym, true}
use Rattle.std.proofs.lemmas.List.Elements.{All-rest}
use Rattle.gs_units.specs.Params.{HasMargin}
use Rattle.gs_estimate.specs.declared.slots.Entry.{Entry}
use Rattle.gs_core.proofs.Quieting.{quiet_goes_on, quiet-no_links, quiet-no_entries}
use Rattle.gs_core.proofs.quiet.is_quiet.Goals as goal

pub loop-link-preserved : goal.loop-link-preserved
loop-link-preserved c =
    let steps = c.in-Some.ensures.steps in
    let held = c.loop-link.invariant in
    let near : c.is_near.result ≡ true = grind (arith, c.if-not-is_near.false) in (
      All-rest HasMargin _ _ _ steps.0 held.0,
      All-rest (λ (e : Entry). e.at ≤ c.args.now) _ _ _ steps.1 held.1,
      All-rest (λ (e : Entry). e.value < 2 ^ 62) _ _ _ steps.1 held.2,
      quiet_goes_on c.args.l c.args.now _ _ _ _ _ _ _ steps.0 steps.1 held.3 (sym c.is_near.ensures ∙ near),
    )

pub returns : goal.returns
returns c =
    sym
    (c.loop-link.invariant.3
    ∙ elim c.in-None.ensures.steps [
      | inl ended ↦ quiet-no_links c.args.l c.args.now _ _ ended.1.0
      | inr ended ↦ quiet-no_entries c.args.l c.args.now _ _ ended.1.0
    ])
