-- The numbers of a rate and of the delays of a link, in clock units, and the bounds that they make. Delays are in quanta.
use Rattle.std.specs.Prelude.{◌≡◌, ℕ, zero, suc, ◌+◌, ◌-◌, ◌*◌, ◌/◌}
use Rattle.std.specs.Int.{div_ceil}
use Rattle.gs_units.specs.declared.rate.Rate.{Rate}
use Rattle.gs_units.specs.declared.rate.Mode.{Mode}
use Rattle.gs_units.specs.declared.rate.Mode.TheVariants.{Slow, Fast}

-- what a boost of mu parts per million adds to h
abbrev pub boosted : ℕ → ℕ → ℕ
boosted mu h = h * mu / 1000000

-- what the slowest clock grows by at least while the fastest grows by h
abbrev pub crept : ℕ → ℕ → ℕ → ℕ
crept lo hi h = h * lo / hi

-- r: how far two hardware clocks may drift apart in one quantum
abbrev pub r_at : ℕ → ℕ → ℕ
r_at lo hi = hi - lo

-- q: the least boost of one quantum
abbrev pub q_at : ℕ → ℕ → ℕ
q_at lo mu = boosted mu lo

-- g: the least creep of one quantum
abbrev pub g_at : ℕ → ℕ → ℕ
g_at lo hi = crept lo hi lo

-- the greatest that one quantum adds to a logical clock
abbrev pub top_at : ℕ → ℕ → ℕ
top_at hi mu = hi + boosted mu hi + 1

-- how far two logical clocks may drift apart in one quantum
abbrev pub drift_at : ℕ → ℕ → ℕ → ℕ
drift_at lo hi mu = top_at hi mu - lo

-- sigma: how many times r goes into q
abbrev pub sigma_at : ℕ → ℕ → ℕ → ℕ
sigma_at lo hi mu = q_at lo mu / r_at lo hi

-- a rate is of these numbers
pub record HasNumbers (low high boost : ℕ) (rate : Rate) : Type 0 where
  pub lo : rate.lo ≡ low
  pub hi : rate.hi ≡ high
  pub mu : rate.mu ≡ boost

-- what the fast mode adds while the hardware clock grows by h
abbrev pub boost_of : Rate → ℕ → ℕ
boost_of rate h = boosted rate.mu h

-- what any clock has grown by at least while this hardware clock grew by h
abbrev pub creep_of : Rate → ℕ → ℕ
creep_of rate h = crept rate.lo rate.hi h

-- what a logical clock grows by while its hardware clock grows by h
abbrev pub steer_of : Rate → Mode → ℕ → ℕ
steer_of rate Slow h = h
steer_of rate Fast h = h + boost_of rate h

-- the same of a rate
abbrev pub r_of : Rate → ℕ
r_of rate = r_at rate.lo rate.hi

abbrev pub q_of : Rate → ℕ
q_of rate = q_at rate.lo rate.mu

abbrev pub g_of : Rate → ℕ
g_of rate = g_at rate.lo rate.hi

abbrev pub top_of : Rate → ℕ
top_of rate = top_at rate.hi rate.mu

abbrev pub drift_of : Rate → ℕ
drift_of rate = drift_at rate.lo rate.hi rate.mu

abbrev pub sigma_of : Rate → ℕ
sigma_of rate = sigma_at rate.lo rate.hi rate.mu

-- j: how far the delays of a link spread
abbrev pub delay_spread : ℕ → ℕ → ℕ → ℕ
delay_spread lo delay_min delay_max = lo * (delay_max - delay_min)

-- what a maximum is raised by for its way: every clock grows by it in the least delay
abbrev pub delay_jump : ℕ → ℕ → ℕ
delay_jump lo delay_min = lo * delay_min

-- what a clock is raised by for its way: half of the spread more
abbrev pub delay_comp : ℕ → ℕ → ℕ → ℕ
delay_comp lo delay_min delay_max = delay_jump lo delay_min + delay_spread lo delay_min delay_max / 2

-- iota: how far ahead the maximum has to be for a node to be fast by itself
abbrev pub iota_at : ℕ → ℕ → ℕ
iota_at drift tick = drift * tick + 1

-- delta: how far an offset may be off at the end of a quantum that uses it
abbrev pub delta_at : ℕ → ℕ → ℕ → ℕ → ℕ
delta_at drift age tick spread = drift * (age + tick) + div_ceil spread 2

-- lambda: how far a maximum may lag behind the greatest clock, where `widest` is the greatest spread
abbrev pub lambda_at : ℕ → ℕ → ℕ → ℕ → ℕ → ℕ
lambda_at diameter hi g age widest = diameter * ((hi - g) * age + widest)

-- G(0): the bound of the difference of any two clocks
abbrev pub skew_at : ℕ → ℕ → ℕ → ℕ → ℕ
skew_at lambda iota r tick = lambda + iota + r * tick

-- G(s), where G(0) is `first`
abbrev pub bound_at : ℕ → ℕ → ℕ → ℕ → ℕ
bound_at first sigma r zero = first
bound_at first sigma r (suc s) = div_ceil (bound_at first sigma r s) sigma + r
