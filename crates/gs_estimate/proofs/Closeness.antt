-- The error of one edge: what was heard is off by the way, and since then by the drift.
use Rattle.std.proofs.Common.{◌≡◌, ℕ, ◌+◌, ◌-◌, ◌*◌, ◌≤◌, arith}
use Rattle.std.proofs.Math.Nat.{mul-le-mul_left, mul-le-mul_right, mul-add, add-mul}
use Rattle.gs_units.specs.Rates.{drift_of, top_of, r_of, delay_spread}
use Rattle.gs_units.specs.declared.rate.Rate.{Rate}
use Rattle.gs_estimate.specs.EdgeError.{BeaconIsClose, StartIsClose, OffsetStaysClose}

-- both kinds of growth over k quanta, as lo for each quantum and what may come on top
pub record Splits (rate : Rate) (k : ℕ) : Type 0 where
  pub reading : rate.hi * k ≡ rate.lo * k + r_of rate * k
  pub clock : top_of rate * k ≡ rate.lo * k + drift_of rate * k
  pub less : r_of rate * k ≤ drift_of rate * k

pub growth-splits : (rate : Rate) (k : ℕ) → Splits rate k
growth-splits rate k =
    let hi_is : rate.lo + r_of rate ≡ rate.hi = omega (arith, rate.accepted.above) in
    let top_is : rate.lo + drift_of rate ≡ top_of rate = omega (arith, rate.accepted.above) in
    let hi : (rate.lo + r_of rate) * k ≡ rate.lo * k + r_of rate * k = add-mul rate.lo (r_of rate) k in
    let top : (rate.lo + drift_of rate) * k ≡ rate.lo * k + drift_of rate * k = add-mul rate.lo (drift_of rate) k in
    record {
      reading = rw hi_is at hi;
      clock = rw top_is at top;
      less = mul-le-mul_right k (omega (arith, rate.accepted.above));
    }

-- a beacon's estimate: its way is off by at most half the spread, the rest is drift
pub beacon_is_close : BeaconIsClose
beacon_is_close rate delay_min delay_max way kept age clock grown e now delay within value read grew =
    let lo : ℕ = rate.lo in
    let reads = growth-splits rate kept in
    let grows = growth-splits rate (way + kept) in
    let least : lo * delay_min ≤ lo * way = mul-le-mul_left lo delay.0 in
    let most : lo * way ≤ lo * (delay_min + (delay_max - delay_min)) = mul-le-mul_left lo (omega (arith, delay)) in
    let span : lo * (delay_min + (delay_max - delay_min)) ≡ lo * delay_min + delay_spread rate.lo delay_min delay_max = mul-add lo delay_min (delay_max - delay_min) in
    let both : lo * (way + kept) ≡ lo * way + lo * kept = mul-add lo way kept in
    let drift : drift_of rate * (way + kept) ≡ drift_of rate * way + drift_of rate * kept = mul-add (drift_of rate) way kept in
    let bound : drift_of rate * (way + kept) ≤ drift_of rate * age = mul-le-mul_left (drift_of rate) within in
    record {
      most = omega (arith, reads.reading, reads.less, least, both, drift, bound, value, read, grew);
      least = omega (arith, grows.clock, most, span, both, bound, value, read, grew);
    }

-- an entry of the start: no way, and so no spread
pub start_is_close : StartIsClose
start_is_close rate spread kept age clock grown e now within value read grew =
    let splits = growth-splits rate kept in
    let bound : drift_of rate * kept ≤ drift_of rate * age = mul-le-mul_left (drift_of rate) within in
    record {
      most = omega (arith, splits.reading, splits.less, bound, value, read, grew);
      least = omega (arith, splits.clock, bound, value, read, grew);
    }

-- a decision's offset: while it is in use, only the drift of two clocks comes on top
pub offset_stays_close : OffsetStaysClose
offset_stays_close rate spread age tick since estimate clock own_grown grown close within own other =
    let splits = growth-splits rate since in
    let bound : drift_of rate * since ≤ drift_of rate * tick = mul-le-mul_left (drift_of rate) within in
    let sum : drift_of rate * (age + tick) ≡ drift_of rate * age + drift_of rate * tick = mul-add (drift_of rate) age tick in
    record {
      most = omega (arith, splits.clock, bound, sum, close.most, own, other);
      least = omega (arith, splits.clock, bound, sum, close.least, own, other);
    }
