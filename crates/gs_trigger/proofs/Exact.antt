-- The least level of a trigger is what the search finds.
use Rattle.std.proofs.Common.{◌≡◌, ℕ, ℤ, pos, negsuc, nat_abs, ◌≤ℤ◌, ◌-ℤ◌, ◌+◌, ◌-◌, ◌*◌, ◌/◌, ◌<◌, ◌≤◌, List, arith, slice_index_or, Some, None, is_some, true, ap, sum_by}
use Rattle.std.proofs.Math.Nat.{mul-le-mul_right, add-mul, le-div_iff_mul-le}
use Rattle.std.proofs.lemmas.Int.{ints}
use Rattle.std.proofs.lemmas.List.Sums.{get_or-le-sum_by}
use Rattle.gs_trigger.specs.Triggers.{Sight, HaveMargins}
use Rattle.gs_trigger.specs.Triggers.{odd_level, even_level, FastAt, SlowAt, highest, fast_level, slow_level}
use Rattle.gs_trigger.specs.inside.Sides.{Reaches, TriggerAt, trigger_at, trigger_level}
use Rattle.gs_trigger.specs.declared.trigger.Trigger.{Trigger}
use Rattle.gs_trigger.specs.declared.trigger.Trigger.TheVariants.{Fast, Slow}
use Rattle.gs_trigger.proofs.Search.{found_first, found_some, found_none}
use Rattle.gs_trigger.proofs.Tests.{trigger_at-true, trigger_at-false}
use Rattle.gs_trigger.proofs.Distances.{even_is}

-- an offset that is ahead or behind by n less d has at least that size
ahead_size : (x : ℤ) (n d : ℕ) → (pos n -ℤ pos d) ≤ℤ x → n ≤ nat_abs x + d
ahead_size (pos m) n d h = omega (arith, ints, h)
ahead_size (negsuc m) n d h = omega (arith, ints, h)

behind_size : (x : ℤ) (n d : ℕ) → x ≤ℤ (pos d -ℤ pos n) → n ≤ nat_abs x + d
behind_size (pos m) n d h = omega (arith, ints, h)
behind_size (negsuc m) n d h = omega (arith, ints, h)

-- the most levels that one neighbour's offset reaches
abbrev most_levels : Sight → ℕ
most_levels x = nat_abs x.1 / x.0.kappa + 1

-- an offset of this size reaches no more than so many levels
reached_levels : (k d s o : ℕ) → 2 * d < k → 1 ≤ s → odd_level k s ≤ o + d → s ≤ o / k + 1
reached_levels k d s o margin one le =
    let split : (2 * s - 1) * k ≡ (s - 1 + s) * k = ap (λ (n : ℕ). n * k) (omega arith) in
    let parts : (s - 1 + s) * k ≡ (s - 1) * k + s * k = add-mul (s - 1) s k in
    let most : 1 * k ≤ s * k = mul-le-mul_right k one in
    let low : (s - 1) * k ≤ o = omega (arith, le, split, parts, most, margin) in
    let positive : 0 < k = omega (arith, margin) in
    let levels : s - 1 ≤ o / k = (le-div_iff_mul-le positive).1 low in
    omega (arith, levels, one)

Reaches-few : (trigger : Trigger) (s : ℕ) (x : Sight) → 2 * x.0.delta < x.0.kappa → 1 ≤ s → Reaches trigger s x → s ≤ most_levels x
Reaches-few Fast s x margin one reached =
    reached_levels x.0.kappa x.0.delta s (nat_abs x.1) margin one (ahead_size x.1 (odd_level x.0.kappa s) x.0.delta reached)
Reaches-few Slow s x margin one reached =
    let size = behind_size x.1 (even_level x.0.kappa s) x.0.delta reached in
    let even = even_is x.0.kappa s one in
    reached_levels x.0.kappa x.0.delta s (nat_abs x.1) margin one (omega (arith, size, even))

-- a level at which the trigger holds is no higher than the search goes
low_enough : (trigger : Trigger) (s : ℕ) (xs : List Sight) → HaveMargins xs → 1 ≤ s → TriggerAt trigger xs s → s < 1 + highest xs
low_enough trigger s xs margins one holds =
    let x : Sight = holds.0.1 in
    let at : slice_index_or xs holds.0.0 x ≡ x = holds.0.3 in
    let sum : most_levels (slice_index_or xs holds.0.0 x) ≤ sum_by most_levels xs = get_or-le-sum_by most_levels xs holds.0.0 x holds.0.2 in
    let same : most_levels x ≤ sum_by most_levels xs = rw at at sum in
    let margin : 2 * x.0.delta < x.0.kappa = let h = margins holds.0.0 x holds.0.2 in rw at at h in
    let few = Reaches-few trigger s x margin one holds.0.4 in
    omega (arith, same, few)

-- the least level at which the trigger holds is what the search finds
pub trigger_level-least : (trigger : Trigger) (s : ℕ) (xs : List Sight) → HaveMargins xs → 1 ≤ s → TriggerAt trigger xs s
    → ((t : ℕ) → 1 ≤ t → TriggerAt trigger xs t → s ≤ t) → trigger_level trigger xs ≡ Some s
unfolding trigger_level
trigger_level-least trigger s xs margins one holds least =
    found_first (trigger_at trigger xs) 1 (highest xs) s one (low_enough trigger s xs margins one holds) (trigger_at-true trigger s xs holds)
    (λ t from before. trigger_at-false trigger t xs (λ earlier. let le = least t from earlier in omega (arith, le)))

-- it finds one where the trigger holds at some level
pub trigger_level-some : (trigger : Trigger) (s : ℕ) (xs : List Sight) → HaveMargins xs → 1 ≤ s → TriggerAt trigger xs s → is_some (trigger_level trigger xs) ≡ true
unfolding trigger_level
trigger_level-some trigger s xs margins one holds = found_some (trigger_at trigger xs) 1 (highest xs) s one (low_enough trigger s xs margins one holds) (trigger_at-true trigger s xs holds)

-- it finds none where the trigger never holds
pub trigger_level-none : (trigger : Trigger) (xs : List Sight) → ((t : ℕ) → 1 ≤ t → ¬ TriggerAt trigger xs t) → trigger_level trigger xs ≡ None
unfolding trigger_level
trigger_level-none trigger xs refused =
    found_none (trigger_at trigger xs) 1 (highest xs) (λ t from. trigger_at-false trigger t xs (refused t from))

-- the same of the two triggers, by their own names
pub fast_level-some : (s : ℕ) (xs : List Sight) → HaveMargins xs → 1 ≤ s → FastAt xs s → is_some (fast_level xs) ≡ true
unfolding fast_level trigger_level
fast_level-some s xs margins one holds = trigger_level-some Fast s xs margins one holds

pub slow_level-some : (s : ℕ) (xs : List Sight) → HaveMargins xs → 1 ≤ s → SlowAt xs s → is_some (slow_level xs) ≡ true
unfolding slow_level trigger_level
slow_level-some s xs margins one holds = trigger_level-some Slow s xs margins one holds

pub fast_level-none : (xs : List Sight) → ((t : ℕ) → 1 ≤ t → ¬ FastAt xs t) → fast_level xs ≡ None
unfolding fast_level trigger_level
fast_level-none xs refused = trigger_level-none Fast xs refused

pub slow_level-none : (xs : List Sight) → ((t : ℕ) → 1 ≤ t → ¬ SlowAt xs t) → slow_level xs ≡ None
unfolding slow_level trigger_level
slow_level-none xs refused = trigger_level-none Slow xs refused
