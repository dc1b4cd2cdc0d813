-- How far a maximum lags, hop by hop.
use Rattle.std.proofs.Common.{◌≡◌, ℕ, ◌+◌, ◌-◌, ◌*◌, ◌≤◌, arith}
use Rattle.std.proofs.Math.Nat.{mul-le-mul_left, mul-le-mul_right, mul-add, add-mul}
use Rattle.gs_units.specs.Rates.{g_of}
use Rattle.gs_maximum.specs.Lag.{HopTells, HopsTell, EarlierIsTold, LagPerHop}
use Rattle.gs_maximum.proofs.Creeping.{g-below}

-- on its way a maximum creeps by at most lo in each quantum, and it was raised by lo for each of the least delay
pub hop_tells : HopTells
hop_tells rate delay_min delay_max way kept age told heard m low high within raised crept =
    let creep : g_of rate * way ≤ rate.lo * way = mul-le-mul_right way (g-below rate) in
    let most : rate.lo * way ≤ rate.lo * (delay_min + (delay_max - delay_min)) = mul-le-mul_left rate.lo (omega (arith, low, high)) in
    let span : rate.lo * (delay_min + (delay_max - delay_min)) ≡ rate.lo * delay_min + rate.lo * (delay_max - delay_min) = mul-add rate.lo delay_min (delay_max - delay_min) in
    let both : g_of rate * (way + kept) ≡ g_of rate * way + g_of rate * kept = mul-add (g_of rate) way kept in
    record { recent = within; crept = omega (arith, creep, most, span, both, raised, crept) }

pub hops_tell : HopsTell
hops_tell rate age slack hop_age hop_slack value since between hop m one next =
    let both : g_of rate * (since + hop) ≡ g_of rate * since + g_of rate * hop = mul-add (g_of rate) since hop in
    record { recent = omega (arith, one.recent, next.recent); crept = omega (arith, both, one.crept, next.crept) }

pub earlier_is_told : EarlierIsTold
earlier_is_told rate age slack value since m earlier k told grew within =
    let creep : g_of rate * k ≤ rate.lo * k = mul-le-mul_right k (g-below rate) in
    let both : g_of rate * (since + k) ≡ g_of rate * since + g_of rate * k = mul-add (g_of rate) since k in
    record { recent = within; crept = omega (arith, creep, both, grew, told.crept) }

pub lag_per_hop : LagPerHop
lag_per_hop rate hops age slack value since m greatest lag grown told behind grew =
    let gap : ℕ = rate.hi - g_of rate in
    let whole : g_of rate + gap ≡ rate.hi = omega (arith, g-below rate, rate.accepted.above) in
    let parts : (g_of rate + gap) * since ≡ g_of rate * since + gap * since = add-mul (g_of rate) gap since in
    let split : rate.hi * since ≡ g_of rate * since + gap * since = rw whole at parts in
    let bound : gap * since ≤ gap * (hops * age) = mul-le-mul_left gap told.recent in
    let turned : gap * (hops * age) ≡ hops * (gap * age) = grind arith in
    let sum : hops * (gap * age + slack) ≡ hops * (gap * age) + hops * slack = mul-add hops (gap * age) slack in
    omega (arith, split, bound, turned, sum, told.crept, behind, grew)
