-- Clocks grow in each quantum by what a rate says.
use Rattle.std.proofs.Common.{◌≡◌, ℕ, ◌+◌, ◌*◌, ◌/◌, ◌<◌, ◌≤◌, arith, refl, List, [], ◌∷◌, length, sum, All}
use Rattle.std.proofs.Math.Nat.{div-add-mod', mod-lt, mul-le-mul_right, add-mul, le-div_iff_mul-le, div-lt_iff_lt-mul, div-le_of_le-mul}
use Rattle.std.proofs.lemmas.List.Elements.{All-head, All-tail}
use Rattle.std.proofs.lemmas.List.Sums.{sum_by-cons}
use Rattle.gs_units.specs.Growth.{IsIncrement, GrowsInEachQuantum, CreepsAtMostByLo}
use Rattle.gs_units.specs.declared.rate.Rate.{Rate}

-- quotients of a sum
pub div-add-least : (a b m : ℕ) → 0 < m → a / m + b / m ≤ (a + b) / m
div-add-least a b m h =
    let ea = div-add-mod' a m in
    let eb = div-add-mod' b m in
    let sum : (a / m + b / m) * m ≡ a / m * m + b / m * m = add-mul (a / m) (b / m) m in
    (le-div_iff_mul-le h).1 (omega (arith, ea, eb, sum))

pub div-monotone : (a b m : ℕ) → 0 < m → a ≤ b → a / m ≤ b / m
div-monotone a b m h le =
    let ea = div-add-mod' a m in
    (le-div_iff_mul-le h).1 (omega (arith, ea))

pub div-add-most : (a b m : ℕ) → 0 < m → (a + b) / m ≤ a / m + b / m + 1
div-add-most a b m h =
    let ea = div-add-mod' a m in
    let eb = div-add-mod' b m in
    let ra = mod-lt a h in
    let rb = mod-lt b h in
    let sum : (a / m + b / m + 2) * m ≡ (a / m + b / m) * m + 2 * m = add-mul (a / m + b / m) 2 m in
    let parts : (a / m + b / m) * m ≡ a / m * m + b / m * m = add-mul (a / m) (b / m) m in
    let below : (a + b) / m < a / m + b / m + 2 = (div-lt_iff_lt-mul h).1 (omega (arith, ea, eb, ra, rb, sum, parts)) in
    omega (arith, below)

-- the two quotients of a rate, over a sum
pub scaled-least : (x h y c m : ℕ) → 0 < m → y ≤ h → x * c / m + y * c / m ≤ (x + h) * c / m
scaled-least x h y c m pos le =
    let sum : (x + h) * c ≡ x * c + h * c = add-mul x h c in
    let grown : y * c ≤ h * c = mul-le-mul_right c le in
    let least = div-add-least (x * c) (y * c) m pos in
    let more = div-monotone (x * c + y * c) (x * c + h * c) m pos (omega (arith, grown)) in
    rw sum (omega (arith, least, more))

pub scaled-most : (x h y c m : ℕ) → 0 < m → h ≤ y → (x + h) * c / m ≤ x * c / m + y * c / m + 1
scaled-most x h y c m pos le =
    let sum : (x + h) * c ≡ x * c + h * c = add-mul x h c in
    let grown : h * c ≤ y * c = mul-le-mul_right c le in
    let most = div-add-most (x * c) (h * c) m pos in
    let more = div-monotone (h * c) (y * c) m pos grown in
    rw sum (omega (arith, most, more))

-- the greatest increment is above 0
pub positive : (rate : Rate) → 0 < rate.hi
positive rate = omega (arith, rate.accepted.low, rate.accepted.above)

-- Growth, for one quantum
pub grows_by : GrowsInEachQuantum
grows_by rate x h inc =
    let least = scaled-least x h rate.lo rate.mu 1000000 (omega arith) inc.0 in
    let most = scaled-most x h rate.hi rate.mu 1000000 (omega arith) inc.1 in
    let creeps = scaled-least x h rate.lo rate.lo rate.hi (positive rate) inc.0 in
    record {
      slow = refl;
      fast_least = omega (arith, least, inc);
      fast_most = omega (arith, most, inc);
      creep = creeps;
    }

-- increments add up to at most the greatest one, as often
sum-most : (rate : Rate) (hs : List ℕ) → All (IsIncrement rate) hs → sum hs ≤ length hs * rate.hi
sum-most rate [] each = omega arith
sum-most rate (h ∷ hs) each =
    let first = All-head (IsIncrement rate) h hs each in
    let rest = sum-most rate hs (All-tail (IsIncrement rate) h hs each) in
    let total : sum (h ∷ hs) ≡ h + sum hs = sum_by-cons (λ x. x) h hs in
    let product : (length hs + 1) * rate.hi ≡ length hs * rate.hi + 1 * rate.hi = add-mul (length hs) 1 rate.hi in
    let counted : length (h ∷ hs) ≡ length hs + 1 = omega arith in
    rw (total, counted) (omega (arith, first, rest, product))

-- Growth, for many quanta
pub creep-sum : CreepsAtMostByLo
creep-sum rate hs each =
    let most = sum-most rate hs each in
    let scaled : sum hs * rate.lo ≤ length hs * rate.hi * rate.lo = mul-le-mul_right rate.lo most in
    let turned : length hs * rate.hi * rate.lo ≡ rate.hi * (rate.lo * length hs) = grind arith in
    div-le_of_le-mul rate.hi (omega (arith, scaled, turned))
