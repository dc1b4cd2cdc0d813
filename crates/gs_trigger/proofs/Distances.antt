-- The distances that levels ask for, and the level that a distance comes to.
use Rattle.std.proofs.Common.{◌≡◌, ℕ, ◌+◌, ◌-◌, ◌*◌, ◌<◌, ◌≤◌, ◌⊎◌, inl, inr, arith, ap, max}
use Rattle.std.proofs.Math.Nat.{mul-le-mul_right, add-mul}
use Rattle.std.proofs.lemmas.Grind.{div_ceil_times}
use Rattle.std.specs.Int.{div_ceil}
use Rattle.gs_trigger.specs.Triggers.{odd_level, even_level}
use Rattle.gs_trigger.specs.inside.Sides.{distance_of}
use Rattle.gs_trigger.specs.declared.trigger.Trigger.{Trigger}
use Rattle.gs_trigger.specs.declared.trigger.Trigger.TheVariants.{Fast, Slow}

-- an even level is one kappa above the odd one
pub even_is : (k s : ℕ) → 1 ≤ s → even_level k s ≡ odd_level k s + k
even_is k s one =
    let split : 2 * s * k ≡ (2 * s - 1 + 1) * k = ap (λ (n : ℕ). n * k) (omega arith) in
    let parts : (2 * s - 1 + 1) * k ≡ (2 * s - 1) * k + 1 * k = add-mul (2 * s - 1) 1 k in
    omega (arith, split, parts)

-- the first level asks for kappa, and every other for more
pub odd_one : (k s : ℕ) → 1 ≤ s → k ≤ odd_level k s
odd_one k s one = let grows : 1 * k ≤ (2 * s - 1) * k = mul-le-mul_right k (omega arith) in omega (arith, grows)

-- a higher level asks for at least the distance of a lower one
pub distance-grows : (trigger : Trigger) (k s t : ℕ) → s ≤ t → distance_of trigger k s ≤ distance_of trigger k t
distance-grows Fast k s t h = mul-le-mul_right k (omega arith)
distance-grows Slow k s t h = mul-le-mul_right k (omega arith)

pub fits_or_past : (a b : ℕ) → (a ≤ b) ⊎ (b < a)
fits_or_past a b = grind arith

-- a quotient that is rounded up is the least number of that many steps
steps-cover : (n m s : ℕ) → 0 < m → div_ceil n m ≤ s → n ≤ s * m
steps-cover n m s positive h =
    let whole = div_ceil_times n m positive in
    let grows : div_ceil n m * m ≤ s * m = mul-le-mul_right m h in
    omega (arith, whole, grows)

steps-least : (n m s : ℕ) → 0 < m → n ≤ s * m → div_ceil n m ≤ s
steps-least n m s positive h =
    let whole = div_ceil_times n m positive in
    elim (fits_or_past (div_ceil n m) s) [
      | inl fits ↦ fits
      | inr past ↦
          let one_more : s + 1 ≤ div_ceil n m = omega arith in
          let more : (s + 1) * m ≤ div_ceil n m * m = mul-le-mul_right m one_more in
          let parts : (s + 1) * m ≡ s * m + 1 * m = add-mul s 1 m in
          absurd (omega (arith, h, whole, more, parts))
    ]

-- levels in double steps of kappa: an even one is all of them, an odd one is a kappa less
even_level-steps : (k s : ℕ) → even_level k s ≡ s * (2 * k)
even_level-steps k s = grind arith

odd_level-steps : (k s : ℕ) → 1 ≤ s → odd_level k s + k ≡ s * (2 * k)
odd_level-steps k s one =
    let even = even_is k s one in
    let steps = even_level-steps k s in
    omega (arith, even, steps)

-- what a lag comes to in double steps of kappa
abbrev pub whole_of : Trigger → ℕ → ℕ → ℕ
whole_of Fast k lag = lag + k
whole_of Slow k lag = lag

whole-steps : (trigger : Trigger) (k lag s : ℕ) → 1 ≤ s → lag ≤ distance_of trigger k s → whole_of trigger k lag ≤ s * (2 * k)
whole-steps Fast k lag s one h = let steps = odd_level-steps k s one in omega (arith, h, steps)
whole-steps Slow k lag s one h = let steps = even_level-steps k s in omega (arith, h, steps)

steps-whole : (trigger : Trigger) (k lag s : ℕ) → 1 ≤ s → whole_of trigger k lag ≤ s * (2 * k) → lag ≤ distance_of trigger k s
steps-whole Fast k lag s one h = let steps = odd_level-steps k s one in omega (arith, h, steps)
steps-whole Slow k lag s one h = let steps = even_level-steps k s in omega (arith, h, steps)

-- the level that a lag asks for, by one division
pub level-covers : (trigger : Trigger) (k lag s : ℕ) → 0 < k → max (div_ceil (whole_of trigger k lag) (2 * k)) 1 ≤ s → lag ≤ distance_of trigger k s
level-covers trigger k lag s positive h = steps-whole trigger k lag s (omega arith) (steps-cover (whole_of trigger k lag) (2 * k) s (omega arith) (omega arith))

pub level-least : (trigger : Trigger) (k lag s : ℕ) → 0 < k → 1 ≤ s → lag ≤ distance_of trigger k s → max (div_ceil (whole_of trigger k lag) (2 * k)) 1 ≤ s
level-least trigger k lag s positive one h =
    let few : div_ceil (whole_of trigger k lag) (2 * k) ≤ s = steps-least (whole_of trigger k lag) (2 * k) s (omega arith) (whole-steps trigger k lag s one h) in
    grind (arith, few)
