-- How far the bounds of the levels may rise, and the best level.
use Rattle.std.proofs.Common.{◌≡◌, ℕ, suc, ◌+◌, ◌*◌, ◌/◌, ◌%◌, ◌<◌, ◌≤◌, arith, refl}
use Rattle.std.proofs.Math.Nat.{mul-le-mul_right, div-add-mod}
use Rattle.std.specs.Int.{div_ceil}
use Rattle.gs_plan.specs.Levels.{best_of, lesser}
use Rattle.gs_units.specs.Rates.{bound_at}

-- a quotient rounded up is at most what was divided
pub div_ceil-le : (x y : ℕ) → 1 ≤ y → div_ceil x y ≤ x
div_ceil-le x y h =
    let whole : 1 * (x / y) ≤ y * (x / y) = mul-le-mul_right (x / y) h in
    let parts : y * (x / y) + x % y ≡ x = div-add-mod x y in
    omega (arith, whole, parts)

-- the bound of the next level
pub bound_more : (first sigma r s : ℕ) → bound_at first sigma r (s + 1) ≡ div_ceil (bound_at first sigma r s) sigma + r
bound_more first sigma r s = let e : s + 1 ≡ suc s = omega arith in rw e refl

-- the best with one level more
pub best_more : (f : ℕ → ℕ) (s : ℕ) → best_of f (s + 1) ≡ lesser (best_of f s) (s + 1, f (s + 1))
best_more f s = let e : s + 1 ≡ suc s = omega arith in rw e refl

-- a lower level takes no more of a kappa
pub level-le : (s last kappa most : ℕ) → s ≤ last → 2 * last * kappa < most → 2 * s * kappa < most
level-le s last kappa most h fits =
    let more : 2 * s * kappa ≤ 2 * last * kappa = mul-le-mul_right kappa (omega arith) in
    omega arith

pub ruleset steps = (bound_more, best_more, level-le, div_ceil-le)
