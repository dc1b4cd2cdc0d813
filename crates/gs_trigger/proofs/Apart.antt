-- The laws of the triggers.
use Rattle.std.proofs.Common.{◌≡◌, ℕ, ℤ, pos, neg_ℤ, ◌≤ℤ◌, ◌-ℤ◌, ◌+◌, ◌-◌, ◌*◌, ◌<◌, ◌≤◌, inl, inr, arith}
use Rattle.std.proofs.Math.Nat.{mul-le-mul_right, add-mul}
use Rattle.std.proofs.lemmas.Int.{ints}
use Rattle.gs_trigger.specs.Triggers.{Sight}
use Rattle.gs_trigger.specs.Triggers.{odd_level, even_level, IsFarAhead, IsNotTooFarBehind, IsFarBehind, IsNotTooFarAhead}
use Rattle.gs_trigger.specs.Laws.{NeverBoth, NotFastInFront, NotSlowAtTheBack}
use Rattle.gs_trigger.proofs.Distances.{even_is, odd_one, fits_or_past}

-- the neighbour that is ahead puts the fast level at or below the slow one
fast_below_slow : (k d s t : ℕ) (x : ℤ) → 2 * d < k → 1 ≤ s → (pos (odd_level k s) -ℤ pos d) ≤ℤ x → x ≤ℤ pos (even_level k t + d) → s ≤ t
fast_below_slow k d s t x margin one ahead within =
    let le : odd_level k s ≤ even_level k t + 2 * d = omega (arith, ints, ahead, within) in
    elim (fits_or_past s t) [
      | inl fits ↦ fits
      | inr past ↦
          let more : (2 * t + 1) * k ≤ (2 * s - 1) * k = mul-le-mul_right k (omega arith) in
          let parts : (2 * t + 1) * k ≡ 2 * t * k + 1 * k = add-mul (2 * t) 1 k in
          absurd (omega (arith, le, more, parts))
    ]

-- the neighbour that is behind puts it above
slow_below_fast : (k d s t : ℕ) (x : ℤ) → 2 * d < k → 1 ≤ t → x ≤ℤ (pos d -ℤ pos (even_level k t)) → neg_ℤ (pos (odd_level k s + d)) ≤ℤ x → t < s
slow_below_fast k d s t x margin one behind within =
    let even = even_is k t one in
    let le : even_level k t ≤ odd_level k s + 2 * d = omega (arith, ints, behind, within) in
    elim (fits_or_past s t) [
      | inr past ↦ past
      | inl fits ↦
          let more : (2 * s - 1) * k ≤ (2 * t - 1) * k = mul-le-mul_right k (omega arith) in
          absurd (omega (arith, le, more, even, margin))
    ]

pub never_both : NeverBoth
never_both sights s t margins one first fast slow =
    let x : Sight = fast.0.1 in
    let y : Sight = slow.0.1 in
    let margin_x : 2 * x.0.delta < x.0.kappa = let h = margins fast.0.0 x fast.0.2 in rw fast.0.3 at h in
    let margin_y : 2 * y.0.delta < y.0.kappa = let h = margins slow.0.0 y slow.0.2 in rw slow.0.3 at h in
    let within : IsNotTooFarAhead t x = let h = slow.1 fast.0.0 x fast.0.2 in rw fast.0.3 at h in
    let low : IsNotTooFarBehind s y = let h = fast.1 slow.0.0 y slow.0.2 in rw slow.0.3 at h in
    let a = fast_below_slow x.0.kappa x.0.delta s t x.1 margin_x one fast.0.4 within in
    let b = slow_below_fast y.0.kappa y.0.delta s t y.1 margin_y first slow.0.4 low in
    omega (arith, a, b)

pub not_fast_in_front : NotFastInFront
not_fast_in_front sights s margins one none fast =
    let x : Sight = fast.0.1 in
    let margin : 2 * x.0.delta < x.0.kappa = let h = margins fast.0.0 x fast.0.2 in rw fast.0.3 at h in
    let near : x.1 ≤ℤ pos x.0.delta = let h = none fast.0.0 x fast.0.2 in rw fast.0.3 at h in
    let first = odd_one x.0.kappa s one in
    let ahead : IsFarAhead s x = fast.0.4 in
    omega (arith, ints, margin, near, first, ahead)

pub not_slow_at_the_back : NotSlowAtTheBack
not_slow_at_the_back sights s margins one none slow =
    let x : Sight = slow.0.1 in
    let margin : 2 * x.0.delta < x.0.kappa = let h = margins slow.0.0 x slow.0.2 in rw slow.0.3 at h in
    let near : neg_ℤ (pos x.0.delta) ≤ℤ x.1 = let h = none slow.0.0 x slow.0.2 in rw slow.0.3 at h in
    let even = even_is x.0.kappa s one in
    let behind : IsFarBehind s x = slow.0.4 in
    omega (arith, ints, margin, near, even, behind)
