use Rattle.std.proofs.Common.{◌≡◌, true, inl, inr, refl, rules, FitsSigned}
use Rattle.std.specs.List.{zip}
use Rattle.std.specs.Int.{w128}
use Rattle.std.proofs.lemmas.Int.{to_z-of_z}
use Rattle.std.proofs.lemmas.List.Elements.{All-rest}
use Rattle.gs_units.specs.Offsets.{IsOffset}
use Rattle.gs_units.specs.Params.{HasMargin}
use Rattle.gs_trigger.proofs.Passes.{Reaches-here, Reaches-later, Reaches-nowhere, zip-no_links, zip-no_offsets}
use Rattle.gs_trigger.proofs.levels.some_reach.Goals as goal

pub returns-then-is_reached : goal.returns-then-is_reached
returns-then-is_reached c =
    let steps = c.in-Some.ensures.steps in
    let fits : FitsSigned w128 c.in-Some.offset.now = search rules in
    let says = simp to_z-of_z at c.is_reached.ensures in (
      λ _. Reaches-here c.args.trigger c.args.s (zip c.args.links.now c.args.offsets.now) _ _ _ _ _ _ steps.0 steps.1 c.loop-link.invariant.2 (says.0 c.if-is_reached.true),
      λ _. refl,
    )

pub loop-link-preserved : goal.loop-link-preserved
loop-link-preserved c =
    let steps = c.in-Some.ensures.steps in
    let held = c.loop-link.invariant in
    let fits : FitsSigned w128 c.in-Some.offset.now = search rules in
    let says = simp to_z-of_z at c.is_reached.ensures in (
      All-rest HasMargin _ _ _ steps.0 held.0,
      All-rest IsOffset _ _ _ steps.1 held.1,
      Reaches-later c.args.trigger c.args.s (zip c.args.links.now c.args.offsets.now) _ _ _ _ _ _ steps.0 steps.1 held.2
          (λ reached. let yes : c.is_reached.result ≡ true = says.1 reached in cc (yes, c.if-is_reached.false)),
    )

pub returns : goal.returns
returns c = (
  λ impossible. absurd (cc),
  λ some.
      absurd
      (Reaches-nowhere c.args.trigger c.args.s (zip c.args.links.now c.args.offsets.now) _
      (elim c.in-None.ensures.steps [ inl ended ↦ zip-no_links _ _ ended.1.0 | inr ended ↦ zip-no_offsets _ _ ended.1.0 ]) c.loop-link.invariant.2 some),
)
