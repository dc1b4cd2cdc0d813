-- How far a maximum creeps.
use Rattle.std.proofs.Common.{◌≡◌, ℕ, ◌+◌, ◌-◌, ◌*◌, ◌≤◌, arith}
use Rattle.std.proofs.Math.Nat.{div-add-mod', mul-le-mul_left, mul-le-mul_right, le-div_iff_mul-le, div-le_of_le-mul}
use Rattle.gs_units.specs.Rates.{creep_of, g_of}
use Rattle.gs_units.specs.declared.rate.Rate.{Rate}
use Rattle.gs_units.proofs.Growing.{positive, scaled-least}
use Rattle.gs_maximum.specs.NeverAhead.{CreepStaysBehind}
use Rattle.gs_maximum.specs.Lag.{HeardCreeps}

-- what was heard creeps on by at most lo in each quantum
pub creep-most : (rate : Rate) (x k : ℕ) → x ≤ rate.hi * k → creep_of rate x ≤ rate.lo * k
creep-most rate x k le =
    let scaled : x * rate.lo ≤ rate.hi * k * rate.lo = mul-le-mul_right rate.lo le in
    let turned : rate.hi * k * rate.lo ≡ rate.hi * (rate.lo * k) = grind arith in
    div-le_of_le-mul rate.hi (omega (arith, scaled, turned))

-- and by at least g
pub creep-least : (rate : Rate) (k : ℕ) → g_of rate * k ≤ creep_of rate (rate.lo * k)
creep-least rate k =
    let whole = div-add-mod' (rate.lo * rate.lo) rate.hi in
    let one : g_of rate * rate.hi ≤ rate.lo * rate.lo = omega (arith, whole) in
    let scaled : g_of rate * rate.hi * k ≤ rate.lo * rate.lo * k = mul-le-mul_right k one in
    let left : g_of rate * k * rate.hi ≡ g_of rate * rate.hi * k = grind arith in
    let right : rate.lo * k * rate.lo ≡ rate.lo * rate.lo * k = grind arith in
    (le-div_iff_mul-le (positive rate)).1 (omega (arith, scaled, left, right))

-- a creep is at most the growth of the reading
pub creep_at_most : (rate : Rate) (h : ℕ) → creep_of rate h ≤ h
creep_at_most rate h =
    let scaled : h * rate.lo ≤ h * rate.hi = mul-le-mul_left h (omega (arith, rate.accepted.above)) in
    let turned : h * rate.hi ≡ rate.hi * h = grind arith in
    div-le_of_le-mul rate.hi (omega (arith, scaled, turned))

-- the least creep of a quantum is at most lo
pub g-below : (rate : Rate) → g_of rate ≤ rate.lo
g-below rate =
    let most = creep-most rate rate.lo 1 (omega (arith, rate.accepted.above)) in
    omega (arith, most)

pub creep_stays_behind : CreepStaysBehind
creep_stays_behind rate m now k reached grown base since grew =
    let most = creep-most rate (now - m.at) k (omega (arith, since)) in
    omega (arith, base, grew, most)

pub heard_creeps : HeardCreeps
heard_creeps rate m now later k before since =
    let x : ℕ = now - m.at in
    let h : ℕ = later - now in
    let least = creep-least rate k in
    let more = scaled-least x h (rate.lo * k) rate.lo rate.hi (positive rate) (omega (arith, since)) in
    let place : x + h ≡ later - m.at = omega (arith, before, since) in
    let moved = rw place at more in
    omega (arith, least, moved)
