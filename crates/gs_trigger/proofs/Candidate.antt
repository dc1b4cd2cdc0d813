-- The only level that can be the least at which a trigger holds.
use Rattle.std.proofs.Common.{ℕ, ℤ, ◌*◌, ◌<◌, ◌≤◌, arith, List, [], ◌∷◌, All, Any}
use Rattle.std.specs.List.{zip}
use Rattle.std.proofs.lemmas.Int.{ints}
use Rattle.std.proofs.lemmas.List.Elements.{All-nil, All-cons, All-head, All-tail}
use Rattle.gs_units.specs.declared.params.Link.{Link}
use Rattle.gs_units.specs.Params.{HasMargin}
use Rattle.gs_trigger.specs.Triggers.{Sight, HaveMargins}
use Rattle.gs_trigger.specs.inside.Sides.{Reaches, TriggerAt, IsLowestAllowed}
use Rattle.gs_trigger.specs.declared.trigger.Trigger.{Trigger}
use Rattle.gs_trigger.specs.declared.trigger.Trigger.TheVariants.{Fast, Slow}
use Rattle.gs_trigger.proofs.Distances.{distance-grows}

-- sights of links with margin have it
pub HaveMargins-zip : (links : List Link) (offsets : List ℤ) → All HasMargin links → HaveMargins (zip links offsets)
HaveMargins-zip [] offsets each = All-nil (λ (x : Sight). 2 * x.0.delta < x.0.kappa)
HaveMargins-zip (k ∷ ks) [] each = All-nil (λ (x : Sight). 2 * x.0.delta < x.0.kappa)
HaveMargins-zip (k ∷ ks) (v ∷ vs) each =
    All-cons (λ (x : Sight). 2 * x.0.delta < x.0.kappa) (k, v) (zip ks vs) (All-head HasMargin k ks each).margin (HaveMargins-zip ks vs (All-tail HasMargin k ks each))

-- who is far enough for a level is far enough for a lower one
Reaches-lower : (trigger : Trigger) (s t : ℕ) (x : Sight) → s ≤ t → Reaches trigger t x → Reaches trigger s x
Reaches-lower Fast s t x h reached =
    let grows = distance-grows Fast x.0.kappa s t h in
    omega (arith, ints, grows, reached)
Reaches-lower Slow s t x h reached =
    let grows = distance-grows Slow x.0.kappa s t h in
    omega (arith, ints, grows, reached)

-- the trigger holds at no level from one on that nobody reaches
pub none_from : (trigger : Trigger) (s : ℕ) (xs : List Sight) → ¬ Any (Reaches trigger s) xs → (t : ℕ) → s ≤ t → ¬ TriggerAt trigger xs t
none_from trigger s xs none t above holds =
    let found = holds.0 in
    none (found.0, found.1, found.2, found.3, Reaches-lower trigger s t found.1 above found.4)

-- The lowest level that all allow is the only candidate: the trigger holds at it,
pub lowest_holds : (trigger : Trigger) (s : ℕ) (xs : List Sight) → IsLowestAllowed trigger xs s → Any (Reaches trigger s) xs → TriggerAt trigger xs s
lowest_holds trigger s xs lowest some = (some, lowest.allowed)

-- or at none.
pub none_holds : (trigger : Trigger) (s : ℕ) (xs : List Sight) → IsLowestAllowed trigger xs s → ¬ Any (Reaches trigger s) xs → (t : ℕ) → 1 ≤ t → ¬ TriggerAt trigger xs t
none_holds trigger s xs lowest none t one holds = none_from trigger s xs none t (lowest.least t one holds.1) holds
