-- How readings and clocks grow, over one quantum and over many.
use Rattle.std.proofs.Common.{◌≡◌, ℕ, zero, suc, ◌+◌, ◌-◌, ◌*◌, ◌<◌, ◌≤◌, arith}
use Rattle.gs_units.specs.Rates.{steer_of, top_of, q_of}
use Rattle.gs_units.specs.Growth.{IsIncrement}
use Rattle.gs_units.specs.declared.rate.Rate.{Rate}
use Rattle.gs_units.specs.declared.rate.Mode.{Mode}
use Rattle.gs_units.specs.declared.rate.Mode.TheVariants.{Slow, Fast}
use Rattle.gs_units.proofs.Growing.{grows_by}
use Rattle.gs_estimate.specs.EdgeError.{IsReadingGrowth, IsClockGrowth}
use Rattle.gs_run.specs.Net.{Net}
use Rattle.gs_run.proofs.History.{IsReached}

-- what grows by at least a, or by at most a, in each quantum, over many
pub many_least : (f : ℕ → ℕ) (last a : ℕ) → ((t : ℕ) → t < last → f t + a ≤ f (suc t)) → (t k : ℕ) → t + k ≤ last → f t + a * k ≤ f (t + k)
many_least f last a each t zero inside =
    let e : t + 0 ≡ t = omega arith in
    rw e (omega arith)
many_least f last a each t (suc k) inside =
    let e : t + suc k ≡ suc (t + k) = omega arith in
    let before = many_least f last a each t k (omega arith) in
    let now = each (t + k) (omega arith) in
    let p : a * suc k ≡ a * k + a = omega arith in
    rw e (omega (arith, before, now, p))

pub many_most : (f : ℕ → ℕ) (last a : ℕ) → ((t : ℕ) → t < last → f (suc t) ≤ f t + a) → (t k : ℕ) → t + k ≤ last → f (t + k) ≤ f t + a * k
many_most f last a each t zero inside =
    let e : t + 0 ≡ t = omega arith in
    rw e (omega arith)
many_most f last a each t (suc k) inside =
    let e : t + suc k ≡ suc (t + k) = omega arith in
    let before = many_most f last a each t k (omega arith) in
    let now = each (t + k) (omega arith) in
    let p : a * suc k ≡ a * k + a = omega arith in
    rw e (omega (arith, before, now, p))

-- the same between two times
pub since_least : (f : ℕ → ℕ) (last a s t : ℕ) → ((t : ℕ) → t < last → f t + a ≤ f (suc t)) → s ≤ t → t ≤ last → f s + a * (t - s) ≤ f t
since_least f last a s t each le inside =
    let e : s + (t - s) ≡ t = omega arith in
    rw e at (many_least f last a each s (t - s) (omega arith))

pub since_most : (f : ℕ → ℕ) (last a s t : ℕ) → ((t : ℕ) → t < last → f (suc t) ≤ f t + a) → s ≤ t → t ≤ last → f t ≤ f s + a * (t - s)
since_most f last a s t each le inside =
    let e : s + (t - s) ≡ t = omega arith in
    rw e at (many_most f last a each s (t - s) (omega arith))

-- ---- readings and clocks of a history

-- What each quantum adds to readings and clocks. It is all that the laws of dates need.
pub record Grows (net : Net) (last : ℕ) (row reading : ℕ → ℕ → ℕ) : Type 0 where
  pub reading_least : (v t : ℕ) → v < net.nodes → t < last → reading t v + net.rate.lo ≤ reading (suc t) v
  pub reading_most : (v t : ℕ) → v < net.nodes → t < last → reading (suc t) v ≤ reading t v + net.rate.hi
  pub row_least : (v t : ℕ) → v < net.nodes → t < last → row t v + net.rate.lo ≤ row (suc t) v
  pub row_most : (v t : ℕ) → v < net.nodes → t < last → row (suc t) v ≤ row t v + top_of net.rate

pub reading_since_least : (net : Net) (last : ℕ) (row reading : ℕ → ℕ → ℕ) → Grows net last row reading → (v s t : ℕ) → v < net.nodes → s ≤ t
    → t ≤ last → reading s v + net.rate.lo * (t - s) ≤ reading t v
reading_since_least net last row reading g v s t hv le inside = since_least (λ z. reading z v) last net.rate.lo s t (λ z hz. g.reading_least v z hv hz) le inside

pub reading_since_most : (net : Net) (last : ℕ) (row reading : ℕ → ℕ → ℕ) → Grows net last row reading → (v s t : ℕ) → v < net.nodes → s ≤ t
    → t ≤ last → reading t v ≤ reading s v + net.rate.hi * (t - s)
reading_since_most net last row reading g v s t hv le inside = since_most (λ z. reading z v) last net.rate.hi s t (λ z hz. g.reading_most v z hv hz) le inside

pub row_since_least : (net : Net) (last : ℕ) (row reading : ℕ → ℕ → ℕ) → Grows net last row reading → (v s t : ℕ) → v < net.nodes → s ≤ t → t ≤ last
    → row s v + net.rate.lo * (t - s) ≤ row t v
row_since_least net last row reading g v s t hv le inside = since_least (λ z. row z v) last net.rate.lo s t (λ z hz. g.row_least v z hv hz) le inside

pub row_since_most : (net : Net) (last : ℕ) (row reading : ℕ → ℕ → ℕ) → Grows net last row reading → (v s t : ℕ) → v < net.nodes → s ≤ t → t ≤ last
    → row t v ≤ row s v + top_of net.rate * (t - s)
row_since_most net last row reading g v s t hv le inside = since_most (λ z. row z v) last (top_of net.rate) s t (λ z hz. g.row_most v z hv hz) le inside

-- no clock falls
pub row_reached : (net : Net) (last : ℕ) (row reading : ℕ → ℕ → ℕ) → Grows net last row reading → (v s t : ℕ) → v < net.nodes → s ≤ t → t ≤ last
    → row s v ≤ row t v
row_reached net last row reading g v s t hv le inside = let least = row_since_least net last row reading g v s t hv le inside in omega (arith, least)

-- both bounds, of what is added between two times
pub reading_growth : (net : Net) (last : ℕ) (row reading : ℕ → ℕ → ℕ) → Grows net last row reading → (v s t : ℕ) → v < net.nodes → s ≤ t → t ≤ last
    → IsReadingGrowth net.rate (t - s) (reading t v - reading s v)
reading_growth net last row reading g v s t hv le inside =
    let least = reading_since_least net last row reading g v s t hv le inside in
    let most = reading_since_most net last row reading g v s t hv le inside in
    (omega (arith, least), omega (arith, most))

pub row_growth : (net : Net) (last : ℕ) (row reading : ℕ → ℕ → ℕ) → Grows net last row reading → (v s t : ℕ) → v < net.nodes → s ≤ t → t ≤ last
    → IsClockGrowth net.rate (t - s) (row t v - row s v)
row_growth net last row reading g v s t hv le inside =
    let least = row_since_least net last row reading g v s t hv le inside in
    let most = row_since_most net last row reading g v s t hv le inside in
    (omega (arith, least), omega (arith, most))

-- some clock that has reached m has grown since
pub reached_later : (net : Net) (last : ℕ) (row reading : ℕ → ℕ → ℕ) → Grows net last row reading → (s t m : ℕ) → s ≤ t → t ≤ last
    → IsReached net.nodes row s m → IsReached net.nodes row t (m + net.rate.lo * (t - s))
reached_later net last row reading g s t m le inside r =
    let grown = row_since_least net last row reading g r.0 s t r.1 le inside in
    (r.0, r.1, omega (arith, grown, r.2))

-- ---- the quantum after a decision

-- what one quantum adds to a clock, and what its mode says of that
pub record SteersBy (net : Net) (mode : Mode) (old new : ℕ) : Type 0 where
  pub least : old + net.rate.lo ≤ new
  pub most : new ≤ old + top_of net.rate
  pub slow : mode ≡ Slow → new ≤ old + net.rate.hi
  pub fast : mode ≡ Fast → old + net.rate.lo + q_of net.rate ≤ new

-- in any mode a clock grows by at least lo and at most top
steer_least : (rate : Rate) (mode : Mode) (x h : ℕ) → IsIncrement rate h → steer_of rate mode x + rate.lo ≤ steer_of rate mode (x + h)
steer_least rate Slow x h inc = omega (arith, inc)
steer_least rate Fast x h inc = let g = (grows_by rate x h inc).fast_least in omega (arith, g)

steer_most : (rate : Rate) (mode : Mode) (x h : ℕ) → IsIncrement rate h → steer_of rate mode (x + h) ≤ steer_of rate mode x + top_of rate
steer_most rate Slow x h inc = omega (arith, inc)
steer_most rate Fast x h inc = let g = (grows_by rate x h inc).fast_most in omega (arith, g)

-- in the slow mode by at most hi, in the fast mode by at least q more than lo
slow_most : (rate : Rate) (mode : Mode) (x h : ℕ) → IsIncrement rate h → mode ≡ Slow → steer_of rate mode (x + h) ≤ steer_of rate mode x + rate.hi
slow_most rate Slow x h inc e = omega (arith, inc)
slow_most rate Fast x h inc e = absurd (cc)

fast_least : (rate : Rate) (mode : Mode) (x h : ℕ) → IsIncrement rate h → mode ≡ Fast
    → steer_of rate mode x + rate.lo + q_of rate ≤ steer_of rate mode (x + h)
fast_least rate Slow x h inc e = absurd (cc)
fast_least rate Fast x h inc e = let g = (grows_by rate x h inc).fast_least in omega (arith, g)

pub steers_by : (net : Net) (mode : Mode) (l at now later h : ℕ) → IsIncrement net.rate h → at ≤ now → later ≡ now + h
    → SteersBy net mode (l + steer_of net.rate mode (now - at)) (l + steer_of net.rate mode (later - at))
steers_by net mode l at now later h inc le is =
    let e : later - at ≡ now - at + h = omega (arith, le, is) in
    let a = steer_least net.rate mode (now - at) h inc in
    let b = steer_most net.rate mode (now - at) h inc in
    rw e (record {
      least = omega (arith, a);
      most = omega (arith, b);
      slow = λ is_slow. let c = slow_most net.rate mode (now - at) h inc is_slow in omega (arith, c);
      fast = λ is_fast. let c = fast_least net.rate mode (now - at) h inc is_fast in omega (arith, c);
    })
