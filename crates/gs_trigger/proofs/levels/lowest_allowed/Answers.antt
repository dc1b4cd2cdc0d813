use Rattle.std.proofs.Common.{inl, inr, rules, FitsSigned}
use Rattle.std.specs.List.{zip}
use Rattle.std.specs.Int.{w128}
use Rattle.std.proofs.lemmas.Int.{to_z-of_z}
use Rattle.std.proofs.lemmas.List.Elements.{All-rest}
use Rattle.gs_units.specs.Offsets.{IsOffset}
use Rattle.gs_units.specs.Params.{HasMargin}
use Rattle.gs_trigger.proofs.Passes.{lowest_goes_on, lowest_ends, zip-no_links, zip-no_offsets}
use Rattle.gs_trigger.proofs.levels.lowest_allowed.Goals as goal

pub loop-link-preserved : goal.loop-link-preserved
loop-link-preserved c =
    let steps = c.in-Some.ensures.steps in
    let held = c.loop-link.invariant in
    let fits : FitsSigned w128 c.in-Some.offset.now = search rules in
    let allows = simp to_z-of_z at c.allowed_from.ensures.allows in
    let least = simp to_z-of_z at c.allowed_from.ensures.least in (
      All-rest HasMargin _ _ _ steps.0 held.0,
      All-rest IsOffset _ _ _ steps.1 held.1,
      rw c.max-lowest.ensures (lowest_goes_on c.args.trigger (zip c.args.links.now c.args.offsets.now) _ _ _ _ _ _ _ _ steps.0 steps.1 held.2 allows least),
    )

pub returns : goal.returns
returns c =
    lowest_ends c.args.trigger (zip c.args.links.now c.args.offsets.now) _ c.loop-link.lowest
    (elim c.in-None.ensures.steps [ inl ended ↦ zip-no_links _ _ ended.1.0 | inr ended ↦ zip-no_offsets _ _ ended.1.0 ]) c.loop-link.invariant.2
