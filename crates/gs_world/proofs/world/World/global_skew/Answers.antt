use Rattle.std.proofs.Common.{◌∙◌, ap, arith, length, List, ℕ}
use Rattle.gs_skew.specs.Skews.{global_skew}
use Rattle.gs_run.proofs.PlanNumbers.{plan_has_numbers}
use Rattle.gs_world.proofs.Reading.{clocks_inside, clocks_shown}
use Rattle.gs_world.proofs.world.World.global_skew.Goals as goal

pub range-requires : goal.range-requires
range-requires c =
    let count = clocks_inside c.self.inside c.self.invariant in
    let read = ap (λ (xs : List ℕ). length xs) c.deref.ensures.value in
    let some = (plan_has_numbers c.self.inside.plan.now).some in
    omega (arith, count, read, some)

pub returns : goal.returns
returns c =
    c.width.ensures.skew c.deref.result.now c.range.ensures
    ∙ ap (λ (xs : List ℕ). global_skew xs)
    (c.deref.ensures.value ∙ clocks_shown c.self.inside c.args.self.now c.self.invariant c.self.view_is)
