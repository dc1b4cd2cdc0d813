-- The tests of the search say what they test.
use Rattle.std.proofs.Common.{◌≡◌, ℕ, ℤ, ◌≤ℤ◌, List, Bool, true, false, arith, refl}
use Rattle.std.specs.List.{list_any, list_all}
use Rattle.std.specs.Int.Signed.{le_z}
use Rattle.std.specs.Cmp.Derive.{both_true}
use Rattle.std.proofs.lemmas.Bool.{and_parts}
use Rattle.std.proofs.lemmas.Int.{ints}
use Rattle.std.proofs.lemmas.List.Sums.{AllPass-from_list_all, list_all-from_AllPass}
use Rattle.std.proofs.lemmas.List.Folds.{Any-from_list_any, list_any-from_Any}
use Rattle.gs_trigger.specs.Triggers.{Sight}
use Rattle.gs_trigger.specs.inside.Sides.{Reaches, Allows, TriggerAt, reaches, allows, trigger_at}
use Rattle.gs_trigger.specs.declared.trigger.Trigger.{Trigger}
use Rattle.gs_trigger.specs.declared.trigger.Trigger.TheVariants.{Fast, Slow}

le_true : (a b : ℤ) → a ≤ℤ b → le_z a b ≡ true
le_true a b h = grind (arith, ints)

true_le : (a b : ℤ) → le_z a b ≡ true → a ≤ℤ b
true_le a b h = grind (arith, ints)

-- the tests of one neighbour say what they test
reaches-true : (trigger : Trigger) (s : ℕ) (x : Sight) → Reaches trigger s x → reaches trigger s x ≡ true
reaches-true Fast s x h = le_true _ _ h
reaches-true Slow s x h = le_true _ _ h

true-Reaches : (trigger : Trigger) (s : ℕ) (x : Sight) → reaches trigger s x ≡ true → Reaches trigger s x
true-Reaches Fast s x e = true_le _ _ e
true-Reaches Slow s x e = true_le _ _ e

allows-true : (trigger : Trigger) (s : ℕ) (x : Sight) → Allows trigger s x → allows trigger s x ≡ true
allows-true Fast s x h = le_true _ _ h
allows-true Slow s x h = le_true _ _ h

true-Allows : (trigger : Trigger) (s : ℕ) (x : Sight) → allows trigger s x ≡ true → Allows trigger s x
true-Allows Fast s x e = true_le _ _ e
true-Allows Slow s x e = true_le _ _ e

-- the test of the trigger says what it tests
pub trigger_at-true : (trigger : Trigger) (s : ℕ) (xs : List Sight) → TriggerAt trigger xs s → trigger_at trigger xs s ≡ true
trigger_at-true trigger s xs holds =
    both_true
    (list_any-from_Any (reaches trigger s) xs (holds.0.0, holds.0.1, holds.0.2, holds.0.3, reaches-true trigger s _ holds.0.4))
    (list_all-from_AllPass (allows trigger s) xs (λ i e h. allows-true trigger s _ (holds.1 i e h)))

true-TriggerAt : (trigger : Trigger) (s : ℕ) (xs : List Sight) → trigger_at trigger xs s ≡ true → TriggerAt trigger xs s
true-TriggerAt trigger s xs e =
    let parts = and_parts (list_any (reaches trigger s) xs) (list_all (allows trigger s) xs) e in
    let some = Any-from_list_any (reaches trigger s) xs parts.0 in
    let each = AllPass-from_list_all (allows trigger s) xs parts.1 in
    ((some.0, some.1, some.2, some.3, true-Reaches trigger s _ some.4), λ i e h. true-Allows trigger s _ (each i e h))

false_unless : (b : Bool) → ¬ (b ≡ true) → b ≡ false
false_unless true refused = absurd (refused refl)
false_unless false refused = refl

pub trigger_at-false : (trigger : Trigger) (s : ℕ) (xs : List Sight) → ¬ TriggerAt trigger xs s → trigger_at trigger xs s ≡ false
trigger_at-false trigger s xs refused = false_unless (trigger_at trigger xs s) (λ e. refused (true-TriggerAt trigger s xs e))
