-- Each trigger alone decides the mode, and iota where neither holds.
use Rattle.std.proofs.Common.{◌≡◌, ℕ, ◌-◌, ◌≤◌, List, arith, Bool, true, false, is_some, nat_le, refl, if◌then◌else◌}
use Rattle.gs_units.specs.declared.rate.Mode.TheVariants.{Slow, Fast}
use Rattle.gs_trigger.specs.Triggers.{Sight, FastAt, SlowAt, fast_level, slow_level}
use Rattle.gs_trigger.proofs.Exact.{fast_level-some, slow_level-some, fast_level-none, slow_level-none}
use Rattle.gs_trigger.proofs.Apart.{never_both}
use Rattle.gs_steer.specs.Modes.{following_mode, mode_of}
use Rattle.gs_steer.specs.Laws.{FastByTrigger, SlowByTrigger, FastFarBehind, SlowNearMaximum}

pub fast_by_trigger : FastByTrigger
fast_by_trigger iota m l s sights margins one fast = rw (fast_level-some s sights margins one fast) refl

pub slow_by_trigger : SlowByTrigger
slow_by_trigger iota m l s sights margins one slow =
    rw (fast_level-none sights (λ t first fast. never_both sights t s margins first one fast slow), slow_level-some s sights margins one slow) refl

pub fast_far_behind : FastFarBehind
fast_far_behind iota m l sights none far = rw (slow_level-none sights none) (pick (is_some (fast_level sights)) (nat_le iota (m - l)) (grind arith)) where
  pick : (a b : Bool) → b ≡ true → (if a then Fast else if false then Slow else if b then Fast else Slow) ≡ Fast
  pick true b e = refl
  pick false true e = refl
  pick false false e = absurd (cc)

pub slow_near_maximum : SlowNearMaximum
slow_near_maximum iota m l sights none near = rw (fast_level-none sights none) (pick (is_some (slow_level sights)) (nat_le iota (m - l)) (grind arith)) where
  pick : (a b : Bool) → b ≡ false → (if a then Slow else if b then Fast else Slow) ≡ Slow
  pick true b e = refl
  pick false false e = refl
  pick false true e = absurd (cc)

-- where neither trigger holds the maximum decides
pub following : (iota m l : ℕ) (sights : List Sight) → ((s : ℕ) → 1 ≤ s → ¬ FastAt sights s) → ((s : ℕ) → 1 ≤ s → ¬ SlowAt sights s)
    → mode_of iota sights m l ≡ following_mode iota m l
following iota m l sights fast slow = rw (fast_level-none sights fast, slow_level-none sights slow) refl
